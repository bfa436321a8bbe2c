-- Each spot is of a visit, and each visit that is kept has a spot.
use Rattle.std.proofs.Common.{◌≡◌, Bool, true, List}
use Rattle.std.specs.Prelude.{Contains}
use Rattle.std.specs.List.{filter}
use Rattle.scope_meaning.specs.Visits.{Visits, Visit}
use Rattle.flat_scopes.specs.declared.scope.SeenScope.{SeenScope}
use Rattle.flat_spots.specs.declared.spot.Spot.{Spot}
use Rattle.flat_spots.specs.Spots.{is_spot, IsSpotOf, AreSpotsOf}
use Rattle.flat_spots.proofs.Members.{in_filter, to_filter, zip_left, zip_right}

pub spot_at : (scopes : List SeenScope) (vs : Visits) (spots : List Spot) (v : Visit) → AreSpotsOf scopes vs spots → Contains vs v → is_spot v ≡ true
    → (s : Spot) × Contains spots s × IsSpotOf scopes v s
spot_at scopes vs spots v are c is = zip_left (IsSpotOf scopes) (filter is_spot vs) spots v are (to_filter is_spot vs v c is)

pub visit_at : (scopes : List SeenScope) (vs : Visits) (spots : List Spot) (s : Spot) → AreSpotsOf scopes vs spots → Contains spots s
    → (v : Visit) × Contains vs v × IsSpotOf scopes v s
visit_at scopes vs spots s are c =
    let r = zip_right (IsSpotOf scopes) (filter is_spot vs) spots s are c in
    (r.0, (in_filter is_spot vs r.0 r.1).0, r.2)
