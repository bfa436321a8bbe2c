use Rattle.std.proofs.Common.{take}
use Rattle.flow_hubs.proofs.Listed.{Marks}
use Rattle.flow_hubs.proofs.sharing.mark_each.Given as goal

abbrev pub invariant-loop-p : goal.invariant-loop-p
invariant-loop-p l = Marks l.initial.marks.items l.marks.items (take l.p-index l.vertices) l.mark
