-- The arms of points.
use Rattle.std.specs.Prelude.{ℕ, ◌<◌, List, map, filter, Option, Some, None}
use Rattle.circuit_run.specs.Lists.{numbered}
use Rattle.counted_circuit.specs.Counts.{is_number}

-- the numbers of the arms of a point, in order
abbrev pub arms_of : List (Option ℕ) → ℕ → List ℕ
arms_of points k = map (λ a. a.0) (filter (λ a. is_number k a.1) (numbered 0 points))

-- a number, if there is one, is below this
abbrev pub IsBelow : ℕ → Option ℕ → Type 0
IsBelow count None = Unit {0}
IsBelow count (Some n) = n < count
