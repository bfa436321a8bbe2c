use Rattle.std.proofs.Common.{take}
use Rattle.flat_reach.specs.Reach.{IsRound}
use Rattle.flat_reach.proofs.reach.hand_all.Given as goal

abbrev pub invariant-loop-one : goal.invariant-loop-one
invariant-loop-one l = IsRound l.handings (take l.one-index l.handings) l.initial.table l.table l.more
