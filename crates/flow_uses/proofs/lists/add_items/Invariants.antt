use Rattle.std.proofs.Common.{take}
use Rattle.std.specs.List.{list_any}
use Rattle.design_meaning.specs.Spans.{is_in_any}
use Rattle.design_meaning.specs.Paths.{item_reads}
use Rattle.flow_spans.specs.Reads.{Adds}
use Rattle.flow_uses.proofs.lists.add_items.Given as goal

abbrev pub invariant-loop-item : goal.invariant-loop-item
invariant-loop-item l = Adds l.vars l.initial.reads.items l.reads.items (λ b. list_any (λ item. is_in_any b (item_reads item)) (take l.item-index l.items))
