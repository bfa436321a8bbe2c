-- Which places are marked, in words of 64 places.
use Rattle.std.specs.Prelude.{◌≡◌, ℕ, ◌<◌, ◌≤◌, ◌*◌, ◌/◌, ◌%◌, ◌==◌, Bool, true, false, List, length, IsTrue, slice_index}
use Rattle.std.specs.Int.{bit_at}

-- a word has a one at a place
abbrev pub is_one : ℕ → ℕ → Type 0
is_one word k = bit_at word k ≡ 1

-- a place is marked where its word has a one
abbrev pub is_marked : List ℕ → ℕ → Bool
is_marked marks k = bit_at (slice_index marks (k / 64)) (k % 64) == 1

-- no place is marked from one on
abbrev pub NoneFrom : List ℕ → ℕ → Type 0
NoneFrom marks from = (k : ℕ) → from ≤ k → is_marked marks k ≡ false

-- a marked place, from one on, with none that is marked between
pub record IsNext (marks : List ℕ) (from at : ℕ) : Type 0 where
  pub upwards : from ≤ at
  pub within : at < 64 * length marks
  pub marked : is_marked marks at ≡ true
  pub between : (k : ℕ) → from ≤ k → k < at → is_marked marks k ≡ false
