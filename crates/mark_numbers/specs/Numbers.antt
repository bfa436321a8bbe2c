-- Marks and their numbers.
use Rattle.std.specs.Prelude.{◌≡◌, ℕ, ◌+◌, ◌<◌, ◌≤◌, Bool, true, false, List, length, filter, Option, Some, None, slice_index_or}

-- the mark at a place is set
abbrev pub is_set : List Bool → ℕ → Bool
is_set marks n = slice_index_or marks n false

-- the number at a place, if it has one
abbrev pub number_at : List (Option ℕ) → ℕ → Option ℕ
number_at numbers n = slice_index_or numbers n None

-- how many marks are set
abbrev pub how_many_set : List Bool → ℕ
how_many_set marks = length (filter (λ m. m) marks)

-- The set marks have numbers of their own, from the first number on, as many as there are, and no other place has one.
pub record HaveNumbers (marks : List Bool) (first next : ℕ) (numbers : List (Option ℕ)) : Type 0 where
  pub many : length numbers ≡ length marks
  pub given : (n : ℕ) → is_set marks n ≡ true → (c : ℕ) × (number_at numbers n ≡ Some c)
  pub none : (n : ℕ) → is_set marks n ≡ false → number_at numbers n ≡ None
  pub within : (n c : ℕ) → number_at numbers n ≡ Some c → (first ≤ c) × (c < next)
  pub apart : (m n c : ℕ) → number_at numbers m ≡ Some c → number_at numbers n ≡ Some c → m ≡ n
  pub next_is : next ≡ first + how_many_set marks
