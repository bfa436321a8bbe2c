-- The arms whose counts are needed for the points of a design.
use Rattle.std.specs.Prelude.{◌≡◌, ℕ, ◌<◌, ◌≤◌, Bool, true, false, ◌⊎◌, List, length, Option, None, is_some, slice_index_or}
use Rattle.counted_circuit.specs.Tells.{Fork}
use Rattle.mark_numbers.specs.Numbers.{is_set}
use Rattle.arm_rows.specs.declared.row.ArmRow.{ArmRow}
use Rattle.arm_rows.specs.declared.row.ArmRow.TheVariants as row
use Rattle.arm_rows.specs.Rows.{may_hold, row_at, IsNoArm}

-- rows whose no arms are those of some forks
pub record AreRows (rows : List ArmRow) : Type 0 where
  pub forks : List Fork
  pub no_arms : (n around y : ℕ) → n < length rows → row_at rows n ≡ row.No around y → IsNoArm forks rows n around y

-- an arm has a point
abbrev pub has_point : List (Option ℕ) → ℕ → Bool
has_point points n = is_some (slice_index_or points n None)

-- an arm is a no arm
abbrev pub is_no_arm : ArmRow → Bool
is_no_arm (row.No around y) = true
is_no_arm _ = false

-- The marked arms, from the arm with the number k on: all that have points; with a no arm from k on the arm around it and the yes arm beside
-- it; and no others than those with points and those in which steps may stand.
pub record AreNeeded (rows : List ArmRow) (points : List (Option ℕ)) (k : ℕ) (marks : List Bool) : Type 0 where
  pub many : length marks ≡ length rows
  pub pointed : (n : ℕ) → has_point points n ≡ true → is_set marks n ≡ true
  pub closed : (n around y : ℕ) → k ≤ n → n < length rows → row_at rows n ≡ row.No around y → is_set marks n ≡ true
      → (is_set marks around ≡ true) × (is_set marks y ≡ true)
  pub no_others : (n : ℕ) → is_set marks n ≡ true → (has_point points n ≡ true) ⊎ (may_hold (row_at rows n) ≡ true)
