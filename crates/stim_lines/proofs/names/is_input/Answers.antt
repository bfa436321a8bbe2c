use Rattle.std.proofs.Common.{◌∙◌, List, ap}
use Rattle.std.specs.List.{list_any}
use Rattle.std.specs.Str.{bytes_eq}
use Rattle.design_tree.specs.declared.design.Input.{Input}
use Rattle.stim_lines.proofs.NameLemmas.{names-any}
use Rattle.stim_lines.proofs.names.is_input.Goals as goal

pub returns : goal.returns
returns c =
    c.has_name.ensures
    ∙ (ap (λ (xs : List Input). list_any (λ (i : Input). bytes_eq c.args.field.now i.name) xs) c.as_slice.ensures
    ∙ names-any c.args.design.now.vars c.args.design.now.inputs c.args.field.now)
