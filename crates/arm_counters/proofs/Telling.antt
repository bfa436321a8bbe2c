-- The entries of each needed arm can be told from the counters of those that may have them.
use Rattle.std.proofs.Common.{◌≡◌, ℕ, ◌+◌, ◌<◌, zero, suc, Bool, true, false, not, ◌&&◌, List, length, inl, inr, refl, ◌∙◌, ap, ap₂, arith}
use Rattle.std.specs.Prelude.{◌⊎◌, Option, Some}
use Rattle.mark_numbers.specs.Numbers.{is_set, number_at, HaveNumbers}
use Rattle.arm_rows.specs.declared.row.ArmRow.{ArmRow}
use Rattle.arm_rows.specs.declared.row.ArmRow.TheVariants as row
use Rattle.arm_rows.specs.Rows.{row_at, IsNoArm}
use Rattle.arm_counters.specs.Needed.{AreRows, AreNeeded, is_no_arm}
use Rattle.arm_counters.specs.Counters.{AreCarrying, IsTold, own, no_arm}

-- an arm is a no arm or isn't
pub which : (r : ArmRow) → ((a : ℕ) × (y : ℕ) × (r ≡ row.No a y)) ⊎ (is_no_arm r ≡ false)
which row.Body = inr refl
which row.Assignment = inr refl
which row.Cover = inr refl
which row.Yes = inr refl
which (row.No a y) = inl (a, y, refl)
which row.Listed = inr refl
which (row.NoMatch written) = inr refl

both : (a b : Bool) → a ≡ true → b ≡ false → (a && not b) ≡ true
both a b e f = ap₂ (λ x y. x && not y) e f

module _ (rows : List ArmRow) (points : List (Option ℕ)) (marks flags : List Bool) (next : ℕ) (numbers : List (Option ℕ)) (are : AreRows rows)
    (needed : AreNeeded rows points 0 marks) (carrying : AreCarrying rows marks flags) (numbered : HaveNumbers flags 0 next numbers) where
  -- a needed arm that isn't a no arm has a counter
  has_own : (n : ℕ) → n < length rows → is_set marks n ≡ true → is_no_arm (row_at rows n) ≡ false → (c : ℕ) × (number_at numbers n ≡ Some c)
  has_own n lt m other = numbered.given n (carrying.each n lt ∙ both (is_set marks n) (is_no_arm (row_at rows n)) m other)

  of_no_arm : (n a y : ℕ) → n < length rows → row_at rows n ≡ row.No a y → IsNoArm are.forks rows n a y → is_set marks y ≡ true
      → IsTold rows numbers a → IsTold rows numbers n
  of_no_arm n a y lt is here set around =
      let before : a < n = let p = here.before in let q = here.after in omega arith in
      let yes_other : is_no_arm (row_at rows y) ≡ false = ap is_no_arm here.yes_row in
      let inside : y < length rows = let q = here.after in omega arith in
      no_arm lt is before here.after (has_own y inside set yes_other).1 around

  told_below : (k n : ℕ) → n < k → n < length rows → is_set marks n ≡ true → IsTold rows numbers n
  told_below zero n less lt m = absurd (omega arith)
  told_below (suc k) n less lt m = elim (which (row_at rows n)) [
    | inr other ↦ own lt other (has_own n lt m other).1
    | inl is ↦
        let here : IsNoArm are.forks rows n is.0 is.1 = are.no_arms n is.0 is.1 lt is.2 in
        let set = needed.closed n is.0 is.1 (omega arith) lt is.2 m in
        let p = here.before in
        let q = here.after in
        of_no_arm n is.0 is.1 lt is.2 here set.1 (told_below k is.0 (omega arith) (omega arith) set.0)
  ]

  pub told : (n : ℕ) → n < length rows → is_set marks n ≡ true → IsTold rows numbers n
  told n lt m = told_below (n + 1) n (omega arith) lt m
