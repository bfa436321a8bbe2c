use Rattle.std.proofs.Common.{◌∙◌}
use Rattle.scope_meaning.specs.Visits.{Visits}
use Rattle.flat_spots.specs.Spots.{AreSpotsOf}
use Rattle.flat_reach.specs.Reach.{IsReached}
use Rattle.flat_clocks.specs.Handings.{AreClocks}
use Rattle.flat_clocks.proofs.Handed.{if_ok, are_clocks}
use Rattle.flat_clocks.proofs.clock.clocks.Goals as goal

pub returns : goal.returns
returns c =
    if_ok (IsReached c.in_ok-first.first c.as_slice.result.now)
    (λ table. (vs : Visits) → AreSpotsOf c.args.scopes.now.scopes.items vs c.args.spots.now → AreClocks vs c.args.clock.now table) c.reached.result
    (λ table reached vs are. are_clocks c.args.scopes.now.scopes.items vs c.args.clock.now c.args.spots.now are c.in_ok-first.first c.as_slice.result.now table
    c.in_ok-first.ensures (c.as_slice.ensures.value ∙ c.in_ok-all.ensures) reached) c.reached.ensures
