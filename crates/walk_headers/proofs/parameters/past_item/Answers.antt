use Rattle.std.proofs.Common.{◌∙◌, ap, sym, List}
use Rattle.vlog_tree.specs.declared.item.ItemKind.TheOpen as i
use Rattle.vlog_tree.specs.declared.item.ParamName.{ParamName}
use Rattle.walk_headers.proofs.HeaderItems.{layer-parameter}
use Rattle.walk_headers.proofs.parameters.past_item.Goals as goal

pub returns-in-Parameter : goal.returns-in-Parameter
returns-in-Parameter c = λ design top done here at under b.
    let p = c.in-Parameter in
    c.past_declaration.ensures design top done here at under b
    (layer-parameter c.args.item.now p.local p.form p.names p.is ∙ ap (λ (ps : List ParamName). i.Parameter p.local p.form ps) (sym c.as_slice.ensures))
