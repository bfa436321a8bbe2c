-- When what the code has of a walk is what the walk comes to.
use Rattle.std.specs.Prelude.{◌≡◌, Bool, true, false, List}
use Rattle.std.specs.List.{filter, AllZip}
use Rattle.scope_meaning.specs.Scope.{Here, At, frames}
use Rattle.scope_meaning.specs.Visits.{Visits, Visit, sees, connects, a_port, an_item, Making}
use Rattle.flat_scopes.specs.declared.place.PlaceInScope.{PlaceInScope}
use Rattle.flat_scopes.specs.declared.scope.SeenScope.{SeenScope}
use Rattle.flat_scopes.specs.Frames.{AreFramesAt}
use Rattle.flat_spots.specs.declared.spot.Spot.{Spot}
use Rattle.flat_spots.specs.declared.spot.Spot.TheVariants as spot

-- a place among the code's scopes is that of a walk
pub record IsPlaceOf (scopes : List SeenScope) (here : Here) (place : At) (at : PlaceInScope) : Type 0 where
  pub number : at.scope ≡ here.number
  pub seen : AreFramesAt scopes at (frames here place)

-- ports, items and instances are kept of a walk
abbrev pub is_spot : Visit → Bool
is_spot (sees (a_port here at p)) = true
is_spot (sees (an_item here at a)) = true
is_spot (connects m) = true
is_spot _ = false

-- it is what the walk comes to
abbrev pub IsSpotOf : List SeenScope → Visit → Spot → Type 0
IsSpotOf scopes (sees (a_port here place p)) (spot.Port at port) = IsPlaceOf scopes here place at × (port.now ≡ p)
IsSpotOf scopes (sees (an_item here place a)) (spot.Item at item) = IsPlaceOf scopes here place at × (item.now ≡ a)
IsSpotOf scopes (connects m) (spot.Instance at place makes of ports) =
    IsPlaceOf scopes m.here m.at at × (place ≡ m.place) × (makes ≡ m.makes) × (of.now ≡ m.of) × (ports.now ≡ m.ports)
IsSpotOf scopes _ _ = ⊥

-- they are all that is kept of these visits, in order
abbrev pub AreSpotsOf : List SeenScope → Visits → List Spot → Type 0
AreSpotsOf scopes vs spots = AllZip (IsSpotOf scopes) (filter is_spot vs) spots
