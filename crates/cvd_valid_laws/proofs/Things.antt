-- The lines of variables, outputs, toggle entries and points hold exactly where these are valid.
use Rattle.std.proofs.Common.{◌≡◌, ℕ, ◌<◌, ◌^◌, Bool, true, false, List, [], ◌∷◌, map, refl, sym, ap, arith, eqb}
use Rattle.std.specs.Prelude.{◌&&◌, ◌||◌, ◌⊎◌, nat_le, nat_lt}
use Rattle.std.specs.List.{AllByRecursion}
use Rattle.std.specs.Ordering.{nat_cmp, is_lt}
use Rattle.std.specs.Cmp.Lexicographic.{slice_cmp}
use Rattle.std.specs.declared.cmp.Ordering.{Ordering}
use Rattle.std.specs.declared.cmp.Ordering.TheVariants.{Less, Equal, Greater}
use mathlib.Core.Logic.{inl, inr}
use Rattle.std.proofs.lemmas.Bool.{true≢false, eqb-true}
use Rattle.std.proofs.lemmas.Bool.Decides.{nat_tests}
use Rattle.cov_types.specs.declared.kind.VarKind.TheVariants as var_kind
use Rattle.cov_types.specs.declared.var.Var.{Var}
use Rattle.design_meaning.specs.Names.{IsBefore}
use Rattle.design_meaning.specs.ValidVariables.{IsVariable, HasStart}
use Rattle.design_meaning.specs.WellTyped.{is_width}
use Rattle.cvd_text.specs.Sections.{is_variable, var_line, is_below}
use Rattle.cvd_text.specs.Targets.{same_kind}
use Rattle.spelling_laws.proofs.Fitting.{first_true, second_true, both_true}
use Rattle.cvd_valid_laws.proofs.Processes.{kind_is, is_kind}
use Rattle.cvd_valid_laws.proofs.Standing.{holds_all, le_of, of_le}

pub lt_of : (m n : ℕ) → nat_lt m n ≡ true → m < n
lt_of m n e = grind (arith, nat_tests)

pub of_lt : (m n : ℕ) → m < n → nat_lt m n ≡ true
of_lt m n e = grind (arith, nat_tests)

pub eq_of : (m n : ℕ) → eqb m n ≡ true → m ≡ n
eq_of m n e = eqb-true m n e

pub of_eq : (m n : ℕ) → m ≡ n → eqb m n ≡ true
of_eq m n e = grind (arith, nat_tests)

-- ---- variables

or_told : (a b : Bool) → (a || b) ≡ true → (a ≡ true) ⊎ (b ≡ true)
or_told true b e = inl refl
or_told false b e = inr e

or_stands : (a b : Bool) → (a ≡ true) ⊎ (b ≡ true) → (a || b) ≡ true
or_stands true b h = refl
or_stands false b h = elim h [ inl e ↦ absurd (true≢false (sym e)) | inr e ↦ e ]

module _ (v : Var) where
  abbrev is_reg : Bool
  is_reg = same_kind v.kind var_kind.Reg

  abbrev one_word : Bool
  one_word = eqb v.words 1

  abbrev fits : Bool
  fits = nat_lt v.start (2 ^ v.width)

  abbrev few : Bool
  few = nat_le v.words 65536

  abbrev some : Bool
  some = nat_le 1 v.words

  start_told : (eqb v.start 0 || (is_reg && one_word && fits)) ≡ true → HasStart v
  start_told e = elim (or_told (eqb v.start 0) (is_reg && one_word && fits) e) [
    | inl z ↦ inl (eq_of v.start 0 z)
    | inr r ↦ let front = first_true (is_reg && one_word) fits r in
        inr (
          kind_is v.kind var_kind.Reg (first_true is_reg one_word front),
          eq_of v.words 1 (second_true is_reg one_word front),
          lt_of v.start (2 ^ v.width) (second_true (is_reg && one_word) fits r),
        )
  ]

  start_stands : HasStart v → (eqb v.start 0 || (is_reg && one_word && fits)) ≡ true
  start_stands h = or_stands (eqb v.start 0) (is_reg && one_word && fits) (elim h [
    | inl z ↦ inl (of_eq v.start 0 z)
    | inr r ↦ inr (both_true (is_reg && one_word) fits (both_true is_reg one_word (is_kind v.kind var_kind.Reg r.0) (of_eq v.words 1 r.1))
        (of_lt v.start (2 ^ v.width) r.2))
  ])

  pub variable_told : is_variable v ≡ true → IsVariable v
  variable_told e =
      let starts = eqb v.start 0 || (is_reg && one_word && fits) in
      let front = first_true (is_width v.width && some && few) starts e in
      let two = first_true (is_width v.width && some) few front in
      record {
        wide = first_true (is_width v.width) some two;
        some_words = le_of 1 v.words (second_true (is_width v.width) some two);
        few_words = le_of v.words 65536 (second_true (is_width v.width && some) few front);
        starts = start_told (second_true (is_width v.width && some && few) starts e);
      }

  pub variable_stands : IsVariable v → is_variable v ≡ true
  variable_stands h =
      both_true (is_width v.width && some && few) (eqb v.start 0 || (is_reg && one_word && fits))
      (both_true (is_width v.width && some) few (both_true (is_width v.width) some h.wide (of_le 1 v.words h.some_words)) (of_le v.words 65536 h.few_words))
      (start_stands h.starts)

pub vars_told : (vars : List Var) → holds_all (map var_line vars) ≡ true → AllByRecursion IsVariable vars
vars_told [] e = tt
vars_told (v ∷ vars) e = (
  variable_told v (first_true (is_variable v) (holds_all (map var_line vars)) e),
  vars_told vars
      (second_true (is_variable v) (holds_all (map var_line vars)) e),
)

pub vars_stand : (vars : List Var) → AllByRecursion IsVariable vars → holds_all (map var_line vars) ≡ true
vars_stand [] h = refl
vars_stand (v ∷ vars) h = both_true (is_variable v) (holds_all (map var_line vars)) (variable_stands v h.0) (vars_stand vars h.1)

-- ---- what ascends

less_told : (o : Ordering) → is_lt o ≡ true → o ≡ Less
less_told Less e = refl
less_told Equal e = absurd (true≢false (sym e))
less_told Greater e = absurd (true≢false (sym e))

pub below_told : (a b : List ℕ) → is_below a b ≡ true → IsBefore a b
below_told a b e = less_told (slice_cmp nat_cmp a b) e

pub below_stands : (a b : List ℕ) → IsBefore a b → is_below a b ≡ true
below_stands a b e = ap is_lt e
