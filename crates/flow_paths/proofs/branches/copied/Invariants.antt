use Rattle.std.proofs.Common.{◌≡◌, take}
use Rattle.flow_paths.proofs.branches.copied.Given as goal

abbrev pub invariant-loop-spot : goal.invariant-loop-spot
invariant-loop-spot l = l.all.items ≡ take l.spot-index l.spots
