-- Whether an item's line stands, from what is held of it.
use Rattle.std.proofs.Common.{◌≡◌, ℕ, ◌≤◌, ◌^◌, Bool, true, false, cond, Some, None, refl, sym, ◌∙◌, ap, arith}
use Rattle.std.specs.Prelude.{◌&&◌, ◌==◌, nat_le, nat_lt}
use Rattle.std.proofs.Math.Nat.{pow-le-pow_right}
use Rattle.std.proofs.lemmas.Bool.{true≢false}
use Rattle.std.proofs.lemmas.Bool.Decides.{nat_tests}
use Rattle.cov_types.specs.Limits.{most}
use Rattle.cov_types.specs.declared.limit.LimitName.TheVariants as limit
use Rattle.design_tree.specs.declared.typed.Typed.{Typed}
use Rattle.design_meaning.specs.Sizes.{nodes}
use Rattle.design_meaning.specs.Widths.{width_of}
use Rattle.cvd_text.specs.Lines.{Load, added, is_within, stands}
use Rattle.cvd_text.specs.Steps.{Around, item_line}
use Rattle.cvd_text.specs.Targets.{is_expression}
use Rattle.cvd_cursor.specs.Numerals.{below}
use Rattle.cvd_expressions.specs.Builds as expressions
use Rattle.cvd_step_laws.specs.StepMarks.{item_of}
use Rattle.cvd_steps.specs.Bodies.{own_load}
use Rattle.cvd_steps.proofs.Adding.{left_of, right_of, both, never}
use Rattle.cvd_steps.proofs.LineTests.{within_parts}

test_le : (n m : ℕ) → n ≤ m → nat_le n m ≡ true
test_le n m h = grind (arith, nat_tests)

pub masked : (limit n v : ℕ) → Some v ≡ below limit n → v ≡ n
masked limit n v e = by (nat_lt n limit) e
  where
    by : (b : Bool) → Some v ≡ cond b (Some n) None → v ≡ n
    by true e = cc
    by false e = absurd (cc)

no_mask : (limit n : ℕ) → None ≡ below limit n → nat_lt n limit ≡ false
no_mask limit n e = by (nat_lt n limit) refl e
  where
    by : (b : Bool) → nat_lt n limit ≡ b → None ≡ cond b (Some n) None → nat_lt n limit ≡ false
    by true p e = absurd (cc)
    by false p e = p

-- a power of two at most 128 high
power_within : (w n : ℕ) → w ≤ 128 → nat_lt n (2 ^ 128) ≡ false → nat_lt n (2 ^ w) ≡ true → ⊥
power_within w n h e f = grind (arith, nat_tests, power_least w h)
  where
    power_least : (w : ℕ) → w ≤ 128 → 2 ^ w ≤ 2 ^ 128
    power_least w h = pow-le-pow_right {n = 2} (omega arith) {i = w} {j = 128} h

module _ (around : Around) (before : Load) (width mask : ℕ) (e : Typed) where
  abbrev fine : Bool
  fine = is_expression around.design e

  abbrev wide : Bool
  wide = width_of around.design e == width

  abbrev inside : Bool
  inside = nat_lt mask (2 ^ width)

  abbrev within : ℕ → Bool
  within n = is_within (added before (own_load 0 n 0))

  pub item_stands : (w m n : ℕ) → expressions.may_stand around.design e ≡ true → w ≡ width_of around.design e → Some m ≡ below (2 ^ 128) mask → n ≡ nodes e
      → (((w == width) && nat_lt m (2 ^ width)) && within n) ≡ stands before (item_line around width (item_of mask e))
  item_stands w m n s wide_is held same =
      ap (λ k. ((k == width) && nat_lt m (2 ^ width)) && within n) wide_is ∙ ap (λ k. (wide && nat_lt k (2 ^ width)) && within n) (masked (2 ^ 128) mask m held)
      ∙ ap (λ k. (wide && inside) && within k) same ∙ by fine wide (left_of fine (nat_le (nodes e) (most limit.Nodes)) s)
    where
      by : (f v : Bool) → f ≡ true → ((v && inside) && within (nodes e)) ≡ (((f && v) && inside) && within (nodes e))
      by true v h = refl
      by false v h = absurd (true≢false (sym h))

  parts : stands before (item_line around width (item_of mask e)) ≡ true → (fine ≡ true) × ((inside ≡ true) × (within (nodes e) ≡ true))
  parts h =
      let front = left_of ((fine && wide) && inside) (within (nodes e)) h in (
        left_of fine wide (left_of (fine && wide) inside front),
        (right_of (fine && wide) inside front, right_of ((fine && wide) && inside) (within (nodes e)) h),
      )

  pub mask_breaks : width ≤ 128 → None ≡ below (2 ^ 128) mask → false ≡ stands before (item_line around width (item_of mask e))
  mask_breaks narrow held = sym (never _ (λ h. power_within width mask narrow (no_mask (2 ^ 128) mask held) (parts h).1.0))

  pub value_breaks : expressions.may_stand around.design e ≡ false → false ≡ stands before (item_line around width (item_of mask e))
  value_breaks s = sym (never _ (λ h.
      let p = parts h in
      let f = within_parts before 0 (nodes e) 0 p.1.1 in
      true≢false (sym (both fine _ p.0 (test_le (nodes e) (most limit.Nodes) f.0)) ∙ s)))
