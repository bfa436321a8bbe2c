-- Counters of arms from which the entries of each arm with a point can be told.
use Rattle.std.specs.Prelude.{◌≡◌, ℕ, ◌<◌, ◌≤◌, ◌&&◌, Bool, true, false, not, List, length, map, filter, Option, Some, None, is_some, slice_index_or}
use Rattle.circuit_run.specs.Lists.{numbered}
use Rattle.counted_circuit.specs.Sorts.{Sort}
use Rattle.counted_circuit.specs.Bound.{may_carry}
use Rattle.mark_numbers.specs.Numbers.{is_set, number_at}
use Rattle.arm_rows.specs.declared.row.ArmRow.{ArmRow}
use Rattle.arm_rows.specs.declared.row.ArmRow.TheVariants as row
use Rattle.arm_rows.specs.Rows.{row_at, sort_of}
use Rattle.arm_counters.specs.Needed.{has_point, is_no_arm}

-- each marked arm that isn't a no arm
pub record AreCarrying (rows : List ArmRow) (marks flags : List Bool) : Type 0 where
  pub many : length flags ≡ length rows
  pub each : (n : ℕ) → n < length rows → is_set flags n ≡ (is_set marks n && not (is_no_arm (row_at rows n)))

-- The entries of an arm can be told: it has a counter of its own; or it is a no arm, the yes arm beside it has a counter, and the entries of
-- the arm around them can be told.
pub data IsTold (rows : List ArmRow) (numbers : List (Option ℕ)) : ℕ → Type 0 where
  own : {n c : ℕ} → n < length rows → is_no_arm (row_at rows n) ≡ false → number_at numbers n ≡ Some c → IsTold rows numbers n
  no_arm : {n around y c : ℕ} → n < length rows → row_at rows n ≡ row.No around y → around < n → y < n → number_at numbers y ≡ Some c
      → IsTold rows numbers around → IsTold rows numbers n

-- the arms that may have counters
abbrev pub carriers : List ArmRow → List (Option ℕ) → List (ℕ × Sort)
carriers rows points = filter (λ a. may_carry a.1 (is_some (slice_index_or points a.0 None))) (numbered 0 (map sort_of rows))

-- The counters of arms, each its own and below the number of counters; there are at most as many as arms that may have one; and the entries of
-- each arm with a point can be told.
pub record AreCounters (rows : List ArmRow) (points : List (Option ℕ)) (counters : ℕ) (numbers : List (Option ℕ)) : Type 0 where
  pub many : length numbers ≡ length rows
  pub below : (n c : ℕ) → number_at numbers n ≡ Some c → c < counters
  pub apart : (m n c : ℕ) → number_at numbers m ≡ Some c → number_at numbers n ≡ Some c → m ≡ n
  pub told : (n : ℕ) → has_point points n ≡ true → IsTold rows numbers n
  pub few : counters ≤ length (carriers rows points)
