-- What a name means at a place, as the code looks it up: outward, in scopes of falling numbers.
use Rattle.std.specs.Prelude.{ℕ, zero, suc, nat_lt, if◌then◌else◌, List, slice_get, Option, Some, None}
use Rattle.flat_scopes.specs.declared.place.PlaceInScope.{PlaceInScope}
use Rattle.flat_scopes.specs.declared.scope.NameMeaning.{NameMeaning}
use Rattle.flat_scopes.specs.declared.scope.SeenScope.{SeenScope}
use Rattle.flat_scopes.specs.Said.{said, or_outside}

-- outside a scope of a number, where places mean what a function says
abbrev pub outside_by : (PlaceInScope → Option NameMeaning) → ℕ → Option PlaceInScope → Option NameMeaning
outside_by f n (Some at) = if nat_lt at.scope n then f at else None
outside_by f n None = None

-- in a scope
abbrev pub in_scope : (PlaceInScope → Option NameMeaning) → PlaceInScope → List ℕ → SeenScope → Option NameMeaning
in_scope f at name s = or_outside (said s at name) (outside_by f at.scope s.outer)

abbrev pub where_found : (PlaceInScope → Option NameMeaning) → PlaceInScope → List ℕ → Option SeenScope → Option NameMeaning
where_found f at name (Some s) = in_scope f at name s
where_found f at name None = None

-- through at most so many scopes
abbrev pub look_up : ℕ → List SeenScope → PlaceInScope → List ℕ → Option NameMeaning
look_up zero scopes at name = None
look_up (suc n) scopes at name = where_found (λ outer. look_up n scopes outer name) at name (slice_get scopes at.scope)

-- what a name means at a place
abbrev pub meaning_by : List SeenScope → PlaceInScope → List ℕ → Option NameMeaning
meaning_by scopes at = look_up (suc at.scope) scopes at
