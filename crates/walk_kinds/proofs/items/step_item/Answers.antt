use Rattle.std.proofs.Common.{ap, sym, ◌∙◌}
use Rattle.vlog_tree.specs.declared.item.ItemKind.{out-ItemKind}
use Rattle.vlog_tree.specs.declared.item.ItemKind.TheOpen as i
use Rattle.vlog_tree.specs.declared.item.ItemKind.TheVariants.{outs-Generate}
use Rattle.scope_meaning.specs.ScopeTrees.{modules}
use Rattle.walk_kinds.proofs.Layers.{is_no_region}
use Rattle.walk_kinds.proofs.items.step_item.Goals as goal

pub returns-in_ok-to_region-in-Generate : goal.returns-in_ok-to_region-in-Generate
returns-in_ok-to_region-in-Generate c = λ files top done here at rest under are m.
    c.in_ok-to_region-in-Generate.ensures (modules files) top done here at c.args.item.now rest under m
    (ap out-ItemKind c.in-Generate.is ∙ outs-Generate c.in-Generate.inner ∙ ap i.Generate (sym c.as_slice.ensures))

pub step_place-requires : goal.step_place-requires
step_place-requires c = is_no_region c.args.item.now c.in_default.not-Generate
