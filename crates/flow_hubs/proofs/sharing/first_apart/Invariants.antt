use Rattle.std.proofs.Common.{take}
use Rattle.flow_hubs.proofs.Listed.{AllMay}
use Rattle.flow_hubs.proofs.sharing.first_apart.Given as goal

abbrev pub invariant-loop-p : goal.invariant-loop-p
invariant-loop-p l = AllMay l.marks l.selfish (take l.p-index l.readers)
