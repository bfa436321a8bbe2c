-- What ascends, by the last of it.
use Rattle.std.specs.Prelude.{◌≡◌, Bool, true, List, Option, None, Some}
use Rattle.std.specs.List.{list_all}

-- whether a value comes behind the last one, if there is one
abbrev pub is_behind : {K : Type 0} → (K → K → Bool) → Option K → K → Bool
is_behind below None key = true
is_behind below (Some last) key = below last key

-- a value comes behind all of these where it comes behind the last
abbrev pub IsLastOf : {A K : Type 0} → (K → K → Bool) → (A → K) → List A → Option K → Type 0
IsLastOf {A} {K} below key_of before last = (key : K) → list_all (λ x. below (key_of x) key) before ≡ is_behind below last key
