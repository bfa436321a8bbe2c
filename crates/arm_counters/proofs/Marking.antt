-- Marking what no arms need.
use Rattle.std.proofs.Common.{◌≡◌, ℕ, ◌+◌, ◌<◌, ◌≤◌, zero, suc, Bool, true, false, List, [], ◌∷◌, map, length, get_or, set, inl, inr, refl, sym, ◌∙◌, ap}
use Rattle.std.proofs.Common.{subst, arith}
use Rattle.std.specs.Prelude.{◌⊎◌, Option, is_some}
use Rattle.std.proofs.lemmas.Bool.{cases_eq}
use Rattle.std.proofs.lemmas.List.{get_or-set_same, get_or-set_other, length-map}
use Rattle.std.proofs.Math.ListN.{length-set}
use Rattle.arm_rows.specs.declared.row.ArmRow.{ArmRow}
use Rattle.arm_rows.specs.declared.row.ArmRow.TheVariants as row
use Rattle.arm_rows.specs.Rows.{may_hold, row_at, IsNoArm}
use Rattle.mark_numbers.specs.Numbers.{is_set}
use Rattle.arm_counters.specs.Needed.{AreRows, AreNeeded, has_point}

-- an element within a list, whatever stands for one that isn't
pub at_any : {X : Type 0} (xs : List X) (n : ℕ) (d e : X) → n < length xs → get_or xs n d ≡ get_or xs n e
at_any [] n d e lt = absurd (omega arith)
at_any (x ∷ xs) zero d e lt = refl
at_any (x ∷ xs) (suc n) d e lt = at_any xs n d e (omega arith)

-- ---- the arms with points

marked_at : (points : List (Option ℕ)) (n : ℕ) → is_set (map is_some points) n ≡ has_point points n
marked_at [] n = refl
marked_at (p ∷ ps) zero = refl
marked_at (p ∷ ps) (suc n) = marked_at ps n

pub points_needed : (rows : List ArmRow) (points : List (Option ℕ)) (marks : List Bool) → marks ≡ map is_some points → length points ≡ length rows
    → AreNeeded rows points (length rows) marks
points_needed rows points marks is many = record {
  many = ap length is ∙ (length-map points is_some ∙ many);
  pointed = λ n h. at n ∙ h;
  closed = λ n a y low lt at h. absurd (omega arith);
  no_others = λ n h. inl (sym (at n) ∙ h);
}
  where
    at : (n : ℕ) → is_set marks n ≡ has_point points n
    at n = ap (λ (xs : List Bool). is_set xs n) is ∙ marked_at points n

-- ---- one arm more

-- an arm that isn't marked, or is no no arm, asks for nothing
pub nothing_more : (rows : List ArmRow) (points : List (Option ℕ)) (k : ℕ) (marks : List Bool)
    → ((around y : ℕ) → row_at rows k ≡ row.No around y → is_set marks k ≡ true → ⊥) → AreNeeded rows points (k + 1) marks → AreNeeded rows points k marks
nothing_more rows points k marks none h = record {
  many = h.many;
  pointed = h.pointed;
  closed = λ n a y low lt is m. elim (cases_eq n k) [
    | inl e ↦ absurd (none a y (subst (λ i. row_at rows i ≡ row.No a y) e is) (subst (λ i. is_set marks i ≡ true) e m))
    | inr e ↦ h.closed n a y (omega arith) lt is m
  ];
  no_others = h.no_others;
}

module _ (marks : List Bool) (i : ℕ) (within : i < length marks) where
  set_here : is_set (set marks i true) i ≡ true
  set_here = get_or-set_same marks i true false within

  -- marks stay, and the one is new
  set_stays : (n : ℕ) → is_set marks n ≡ true → is_set (set marks i true) n ≡ true
  set_stays n h = elim (cases_eq n i) [
    | inl e ↦ subst (λ j. is_set (set marks i true) j ≡ true) (sym e) set_here
    | inr e ↦ get_or-set_other marks i n true false e ∙ h
  ]

  set_only : (n : ℕ) → is_set (set marks i true) n ≡ true → (n ≡ i) ⊎ (is_set marks n ≡ true)
  set_only n h = elim (cases_eq n i) [ inl e ↦ inl e | inr e ↦ inr (sym (get_or-set_other marks i n true false e) ∙ h) ]

-- a marked no arm asks for the arm around it and the yes arm beside it
pub two_more : (rows : List ArmRow) (points : List (Option ℕ)) (k around y : ℕ) (marks : List Bool) → AreRows rows → k < length rows
    → row_at rows k ≡ row.No around y → AreNeeded rows points (k + 1) marks → AreNeeded rows points k (set (set marks around true) y true)
two_more rows points k around y marks rows_are lt is h = record {
  many = length-set (set marks around true) y true ∙ (length-set marks around true ∙ h.many);
  pointed = λ n p. stays n (h.pointed n p);
  closed = λ n a z low within at m. elim (cases_eq n k) [
    | inl e ↦ at_k n a z e at
    | inr e ↦ let old = h.closed n a z (omega arith) within at (before n low m) in (stays a old.0, stays z old.1)
  ];
  no_others = λ n m. elim (set_only (set marks around true) y y_in n m) [
    | inl e ↦ inr (ap (λ i. may_hold (row_at rows i)) e ∙ ap may_hold here.yes_row)
    | inr m1 ↦ elim (set_only marks around around_in n m1) [
      | inl e ↦ inr (ap (λ i. may_hold (row_at rows i)) e ∙ here.around_row.holds)
      | inr m0 ↦ h.no_others n m0
    ]
  ];
}
  where
    here : IsNoArm rows_are.forks rows k around y
    here = rows_are.no_arms k around y lt is

    around_in : around < length marks
    around_in = let a = here.before in let b = here.after in let m = h.many in omega arith

    y_in : y < length (set marks around true)
    y_in = let b = here.after in let m = h.many in let e = length-set marks around true in omega arith

    stays : (n : ℕ) → is_set marks n ≡ true → is_set (set (set marks around true) y true) n ≡ true
    stays n m = set_stays (set marks around true) y y_in n (set_stays marks around around_in n m)

    -- what is marked from k on was marked before: the two arms stand before it
    before : (n : ℕ) → k ≤ n → is_set (set (set marks around true) y true) n ≡ true → is_set marks n ≡ true
    before n low m = elim (set_only (set marks around true) y y_in n m) [
      | inl e ↦ absurd (let b = here.after in omega arith)
      | inr m1 ↦ elim (set_only marks around around_in n m1) [
        | inl e ↦ absurd (let a = here.before in let b = here.after in omega arith)
        | inr m0 ↦ m0
      ]
    ]

    at_k : (n a z : ℕ) → n ≡ k → row_at rows n ≡ row.No a z
        → (is_set (set (set marks around true) y true) a ≡ true) × (is_set (set (set marks around true) y true) z ≡ true)
    at_k n a z e at =
        let same : row.No around y ≡ row.No a z = sym is ∙ (ap (row_at rows) (sym e) ∙ at) in
        let ea : around ≡ a = cc in
        let ey : y ≡ z = cc in (
          subst (λ i. is_set (set (set marks around true) y true) i ≡ true) ea
              (set_stays (set marks around true) y y_in around (set_here marks around around_in)),
          subst (λ i. is_set (set (set marks around true) y true) i ≡ true) ey (set_here (set marks around true) y y_in),
        )
