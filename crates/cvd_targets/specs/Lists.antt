-- Lists behind their number, and what is summed up over them.
use Rattle.std.specs.Prelude.{◌≡◌, ℕ, ◌*◌, ◌+◌, ◌<◌, ◌≤◌, ◌&&◌, ◌⊎◌, Bool, nat_le, List, ◌++◌, map}
use Rattle.std.specs.List.{list_all}
use Rattle.circuit_run.specs.Lists.{total}
use Rattle.cvd_text.specs.Pieces.{Mark}
use Rattle.spelling_laws.specs.Lists.{Many}
use Rattle.cvd_cursor.specs.Numerals.{number_tokens}
use Rattle.cvd_cursor.specs.Reads.{marks}

-- so many values and their number
abbrev pub Counted : Type 0 → Type 0
Counted A = (n : ℕ) × Many A n

abbrev pub counted_marks : {A : Type 0} → ((n : ℕ) → Many A n → List Mark) → Counted A → List Mark
counted_marks marks_many p = marks number_tokens p.0 ++ marks_many p.0 p.1

-- so often something has to be read: the count, or more than there are pieces
abbrev pub AreTurns : ℕ → ℕ → ℕ → Type 0
AreTurns bytes count turns = (turns ≡ count) ⊎ ((turns ≤ count) × (2 * bytes + 1 < turns))

-- each element is one of these, and two sums are within their limits
abbrev pub fits_all : {A : Type 0} → (A → Bool) → (A → ℕ) → (A → ℕ) → ℕ → ℕ → List A → Bool
fits_all is_one first second most_first most_second xs =
    list_all is_one xs && nat_le (total (map first xs)) most_first && nat_le (total (map second xs)) most_second
