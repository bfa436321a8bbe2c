-- What is counted of a run of a design that tells arms: arms entered, bits changed.
use Rattle.std.specs.Prelude.{ℕ, ◌+◌, ◌==◌, Bool, false, length, map, filter, Option, Some, None, slice_index_or}
use Rattle.cov_points.specs.declared.table.PointTable.{PointTable}
use Rattle.cov_points.specs.declared.table.TogglePoint.{TogglePoint}
use Rattle.circuit_run.specs.States.{Bit}
use Rattle.circuit_run.specs.Runs.{Run, all_notes}
use Rattle.circuit_run.specs.Lists.{how_many, total}
use Rattle.circuit_run.specs.Counting.{settled_states, changes}

-- how often a number was noted
abbrev pub times : ℕ → Run ℕ → ℕ
times n r = how_many n (all_notes r)

-- ---- a run that tells arms: the occurrences of a point of a table

-- an arm or bit has the point with this number
abbrev pub is_number : ℕ → Option ℕ → Bool
is_number k None = false
is_number k (Some n) = n == k

-- the bit of a row
abbrev pub bit_of : TogglePoint → Bit
bit_of t = record { var = t.var; word = t.word; place = t.bit }

-- how often an arm of the point was entered
abbrev pub arm_occurrences : PointTable → Run ℕ → ℕ → ℕ
arm_occurrences table r k = length (filter (λ arm. is_number k (slice_index_or table.arm_points arm None)) (all_notes r))

-- how often a bit of the point changed
abbrev pub bit_occurrences : PointTable → Run ℕ → ℕ → ℕ
bit_occurrences table r k = total (map (λ t. changes (settled_states r) (bit_of t)) (filter (λ t. t.point == k) table.toggles))

-- how often a point of a table occurred
abbrev pub point_occurrences : PointTable → Run ℕ → ℕ → ℕ
point_occurrences table r k = arm_occurrences table r k + bit_occurrences table r k
