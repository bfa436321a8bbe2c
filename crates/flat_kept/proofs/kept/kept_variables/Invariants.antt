use Rattle.std.proofs.Common.{take}
use Rattle.std.specs.List.{filter, flat_map, AllZip}
use Rattle.scope_meaning.specs.Visits.{Visits}
use Rattle.flat_source_meaning.specs.Variables.{variables_at}
use Rattle.flat_spots.specs.Spots.{IsSpotOf}
use Rattle.flat_kept.specs.Kept as spec
use Rattle.flat_kept.proofs.kept.kept_variables.Given as goal

abbrev pub invariant-loop-spot : goal.invariant-loop-spot
invariant-loop-spot l = (us : Visits) → AllZip (IsSpotOf l.scopes.scopes.items) us (take l.spot-index l.spots)
    → spec.IsMore (filter (spec.is_kept l.fn.clocks l.fn.loops) (flat_map variables_at us)) l.initial.kept l.kept
