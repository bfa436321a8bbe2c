-- Lists by number.
use Rattle.std.specs.Prelude.{ℕ, List, [], slice_index_or}

-- the list of a number, none where there is no such list
abbrev pub list_at : {A : Type 0} → List (List A) → ℕ → List A
list_at lists n = slice_index_or lists n []
