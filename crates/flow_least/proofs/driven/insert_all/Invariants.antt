use Rattle.std.proofs.Common.{take}
use Rattle.flow_least.proofs.Meeting.{IsFilled}
use Rattle.flow_least.proofs.driven.insert_all.Given as goal

abbrev pub invariant-loop-span : goal.invariant-loop-span
invariant-loop-span l = IsFilled l.initial.marks l.marks (take l.span-index l.spans)
