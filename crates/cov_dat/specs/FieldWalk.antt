-- Private: the fields of a key, one after the other.
use Rattle.std.specs.Prelude.{◌≡◌, ℕ, ◌==◌, true, List, [], ◌∷◌}

-- a field begins here, or nothing is left
abbrev pub BeginsField : List ℕ → Type 0
BeginsField [] = Unit {0}
BeginsField (b ∷ bs) = (b == 1) ≡ true
