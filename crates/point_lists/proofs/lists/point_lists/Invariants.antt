use Rattle.std.proofs.Common.{take}
use Rattle.point_lists.proofs.Putting.{Have}
use Rattle.point_lists.proofs.lists.point_lists.Given as goal

abbrev pub invariant-loop-arm : goal.invariant-loop-arm
invariant-loop-arm l = Have l.rows l.numbers (take l.arm-index l.arms) l.plus l.minus
