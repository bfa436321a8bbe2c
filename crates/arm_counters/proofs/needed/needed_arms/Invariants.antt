use Rattle.std.proofs.Common.{◌≤◌, length}
use Rattle.arm_counters.specs.Needed.{AreNeeded}
use Rattle.arm_counters.proofs.needed.needed_arms.Given as goal

abbrev pub invariant-loop-arm : goal.invariant-loop-arm
invariant-loop-arm l = record { needed : AreNeeded l.rows l.points l.arm l.marks.items; within : l.arm ≤ length l.rows }

abbrev pub decreases-loop-arm : goal.decreases-loop-arm
decreases-loop-arm l = l.arm
