-- Least numbers.
use Rattle.std.specs.Prelude.{ℕ, ◌<◌, nat_lt, if◌then◌else◌, Option, Some, None}

-- the least number of some kind, or that there is none
abbrev pub IsLeastOf : (ℕ → Type 0) → Option ℕ → Type 0
IsLeastOf P None = (v : ℕ) → P v → ⊥
IsLeastOf P (Some v) = P v × ((w : ℕ) → w < v → P w → ⊥)

-- the lesser of two numbers, where both are there
abbrev pub lesser_of : Option ℕ → Option ℕ → Option ℕ
lesser_of None b = b
lesser_of (Some a) None = Some a
lesser_of (Some a) (Some b) = if nat_lt b a then Some b else Some a
