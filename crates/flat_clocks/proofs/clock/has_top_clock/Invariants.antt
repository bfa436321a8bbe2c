use Rattle.std.proofs.Common.{◌≡◌, take, false}
use Rattle.std.specs.List.{list_any}
use Rattle.flat_clocks.specs.Handings as spec
use Rattle.flat_clocks.proofs.clock.has_top_clock.Given as goal

abbrev pub invariant-loop-spot : goal.invariant-loop-spot
invariant-loop-spot l = list_any (spec.is_top_clock l.clock) (take l.spot-index l.spots) ≡ false
