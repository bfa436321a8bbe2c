use Rattle.std.proofs.Common.{◌≡◌, take}
use Rattle.std.specs.List.{flat_map}
use Rattle.flat_clocks.specs.Handings as spec
use Rattle.flat_clocks.proofs.handing.handings.Given as goal

abbrev pub invariant-loop-spot : goal.invariant-loop-spot
invariant-loop-spot l = l.all.items ≡ flat_map (spec.handings_at l.scopes.scopes.items) (take l.spot-index l.spots)
