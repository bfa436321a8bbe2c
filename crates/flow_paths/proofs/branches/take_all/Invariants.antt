use Rattle.std.proofs.Common.{take}
use Rattle.flow_paths.specs.Walking.{TakesAll}
use Rattle.flow_paths.proofs.branches.take_all.Given as goal

abbrev pub invariant-loop-spot : goal.invariant-loop-spot
invariant-loop-spot l = TakesAll l.initial.walk l.walk (take l.spot-index l.spots)
