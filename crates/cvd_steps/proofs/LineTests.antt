-- Whether a line stands, from what is held of it.
use Rattle.std.proofs.Common.{◌≡◌, ℕ, ◌+◌, ◌<◌, ◌≤◌, ◌^◌, Bool, true, false, cond, List, map, Some, None, refl, sym, ◌∙◌, ap, arith}
use Rattle.std.specs.Prelude.{◌&&◌, ◌==◌, nat_le, nat_lt}
use Rattle.std.specs.List.{list_all}
use Rattle.std.proofs.lemmas.Bool.{true≢false}
use Rattle.std.proofs.lemmas.Bool.Decides.{nat_tests}
use Rattle.cov_types.specs.Limits.{most}
use Rattle.cov_types.specs.declared.limit.LimitName.TheVariants as limit
use Rattle.circuit_run.specs.Lists.{total}
use Rattle.design_tree.specs.declared.step.Piece.{Piece}
use Rattle.design_tree.specs.declared.typed.Typed.{Typed}
use Rattle.design_meaning.specs.Mentions.{piece_length}
use Rattle.design_meaning.specs.Sizes.{nodes}
use Rattle.design_meaning.specs.WellTyped.{is_width}
use Rattle.design_meaning.specs.Widths.{width_of}
use Rattle.cvd_text.specs.Lines.{Load, added, is_within, stands, most_steps}
use Rattle.cvd_text.specs.Steps.{Around, Spot, Sort, may_stand, assigning, tests, other, speaks, counts}
use Rattle.cvd_text.specs.Targets.{is_expression, is_piece, takes_value, assigned_nodes, piece_nodes}
use Rattle.cvd_cursor.specs.Numerals.{below}
use Rattle.cvd_expressions.specs.Builds as expressions
use Rattle.cvd_step_laws.specs.StepMarks.{if_line, case_line, show_line, count_line}
use Rattle.cvd_targets.specs.PieceParts.{may_be_pieces}
use Rattle.cvd_targets.specs.TargetParts.{Assigning, may_assign}
use Rattle.cvd_steps.specs.Bodies.{own_load}
use Rattle.cvd_steps.proofs.Adding.{left_of, right_of, both, never}

-- ---- tests of a step's line

flag_is : (allowed m t w : Bool) → allowed ≡ m → t ≡ true → (allowed && w) ≡ ((m && t) && w)
flag_is true true true w e f = refl
flag_is false false true w e f = refl
flag_is true false t w e f = absurd (true≢false e)
flag_is false true t w e f = absurd (true≢false (sym e))
flag_is true true false w e f = absurd (true≢false (sym f))
flag_is false false false w e f = absurd (true≢false (sym f))

flag_with : (allowed m b i c w : Bool) → allowed ≡ m → i ≡ true → b ≡ c → ((allowed && b) && w) ≡ ((m && (i && c)) && w)
flag_with allowed m b true c w e f g = ap (λ a. (a && b) && w) e ∙ ap (λ d. (m && d) && w) g
flag_with allowed m b false c w e f g = absurd (true≢false (sym f))

broken : (m t w : Bool) → (t ≡ true → w ≡ true → ⊥) → ((m && t) && w) ≡ false
broken m t w h = never _ (λ e. h (right_of m t (left_of (m && t) w e)) (right_of (m && t) w e))

four : (a b c d : Bool) → (((a && b) && c) && d) ≡ true → (c ≡ true) × (d ≡ true)
four true true true true e = (refl, refl)
four true true true false e = absurd (true≢false (sym e))
four true true false d e = absurd (true≢false (sym e))
four true false c d e = absurd (true≢false (sym e))
four false b c d e = absurd (true≢false (sym e))

le_of : (n m : ℕ) → nat_le n m ≡ true → n ≤ m
le_of n m h = grind (arith, nat_tests)

test_le : (n m : ℕ) → n ≤ m → nat_le n m ≡ true
test_le n m h = grind (arith, nat_tests)

same_test : (m n k : ℕ) → m ≡ n → (m == k) ≡ (n == k)
same_test m n k e = ap (λ x. x == k) e

-- what a line within the limits adds
pub within_parts : (before : Load) (steps n shown : ℕ) → is_within (added before (own_load steps n shown)) ≡ true
    → (n ≤ most limit.Nodes) × (shown ≤ most limit.EdgeText)
within_parts before steps n shown e =
    let f = four (nat_le (before.bits + 0) (most limit.StateBits)) (nat_le (before.steps + steps) most_steps) (nat_le (before.nodes + n) (most limit.Nodes))
    (nat_le (before.shown + shown) (most limit.EdgeText)) e in
    let a = le_of (before.nodes + n) (most limit.Nodes) f.0 in
    let b = le_of (before.shown + shown) (most limit.EdgeText) f.1 in
    (omega arith, omega arith)

module _ (around : Around) (before : Load) (at : Spot) where
  abbrev within : ℕ → ℕ → Bool
  within n shown = is_within (added before (own_load 1 n shown))

  -- ---- `set` and `later`

  module _ (sort : Sort) (name : List ℕ) (p : Assigning) where
    pub assigned_stands : (allowed : Bool) (n : ℕ) → allowed ≡ may_stand around.kind at sort → may_assign around.design around.kind p ≡ true
        → n ≡ assigned_nodes p.0 p.1 → (allowed && within n 0) ≡ stands before (assigning around at sort name p.0 p.1)
    assigned_stands allowed n e s same =
        ap (λ k. allowed && within k 0) same
        ∙ flag_is allowed (may_stand around.kind at sort) (takes_value around.design around.kind p.0 p.1) (within (assigned_nodes p.0 p.1) 0) e
        (left_of (takes_value around.design around.kind p.0 p.1) (nat_le (assigned_nodes p.0 p.1) (most limit.Nodes)) s)

    pub assigned_breaks : may_assign around.design around.kind p ≡ false → false ≡ stands before (assigning around at sort name p.0 p.1)
    assigned_breaks e =
        sym (broken (may_stand around.kind at sort) (takes_value around.design around.kind p.0 p.1) (within (assigned_nodes p.0 p.1) 0) (λ t w.
        let f = within_parts before 1 (assigned_nodes p.0 p.1) 0 w in
        true≢false (sym (both (takes_value around.design around.kind p.0 p.1) _ t (test_le (assigned_nodes p.0 p.1) (most limit.Nodes) f.0)) ∙ e)))

  -- ---- `if`

  module _ (e : Typed) where
    abbrev fine : Bool
    fine = is_expression around.design e

    is_fine : expressions.may_stand around.design e ≡ true → fine ≡ true
    is_fine s = left_of fine (nat_le (nodes e) (most limit.Nodes)) s

    no_expression : expressions.may_stand around.design e ≡ false → fine ≡ true → within (nodes e) 0 ≡ true → ⊥
    no_expression s t w =
        let f = within_parts before 1 (nodes e) 0 w in
        true≢false (sym (both fine _ t (test_le (nodes e) (most limit.Nodes) f.0)) ∙ s)

    pub test_stands : (allowed : Bool) (width n : ℕ) → allowed ≡ may_stand around.kind at tests → expressions.may_stand around.design e ≡ true
        → width ≡ width_of around.design e → n ≡ nodes e → ((allowed && (width == 1)) && within n 0) ≡ stands before (if_line around at e)
    test_stands allowed width n a s w same =
        ap (λ k. (allowed && (width == 1)) && within k 0) same
        ∙ flag_with allowed (may_stand around.kind at tests) (width == 1) fine (width_of around.design e == 1) (within (nodes e) 0) a (is_fine s)
        (same_test width (width_of around.design e) 1 w)

    pub test_breaks : expressions.may_stand around.design e ≡ false → false ≡ stands before (if_line around at e)
    test_breaks s = sym (broken (may_stand around.kind at tests) (fine && (width_of around.design e == 1)) (within (nodes e) 0) (λ t w.
        no_expression s (left_of fine (width_of around.design e == 1) t) w))

    -- ---- `case`

    pub case_stands : (count : ℕ) (allowed : Bool) (n : ℕ) → allowed ≡ may_stand around.kind at other → expressions.may_stand around.design e ≡ true
        → n ≡ nodes e → (allowed && within n 0) ≡ stands before (case_line around at count e)
    case_stands count allowed n a s same =
        ap (λ k. allowed && within k 0) same ∙ flag_is allowed (may_stand around.kind at other) fine (within (nodes e) 0) a (is_fine s)

    pub case_breaks : (count : ℕ) → expressions.may_stand around.design e ≡ false → false ≡ stands before (case_line around at count e)
    case_breaks count s = sym (broken (may_stand around.kind at other) fine (within (nodes e) 0) (λ t w. no_expression s t w))

  -- ---- `show`

  module _ (ps : List Piece) where
    abbrev all : Bool
    all = list_all (is_piece around.design) ps

    abbrev of : ℕ
    of = total (map piece_nodes ps)

    abbrev long : ℕ
    long = total (map (piece_length around.design) ps)

    pub show_stands : (allowed : Bool) (n shown : ℕ) → allowed ≡ may_stand around.kind at speaks → may_be_pieces around.design ps ≡ true
        → n ≡ of → shown ≡ long → (allowed && within n shown) ≡ stands before (show_line around at ps)
    show_stands allowed n shown a s same length_is =
        ap (λ k. allowed && within k shown) same ∙ ap (λ k. allowed && within of k) length_is
        ∙ flag_is allowed (may_stand around.kind at speaks) all (within of long) a
        (left_of all (nat_le of (most limit.Nodes)) (left_of (all && nat_le of (most limit.Nodes)) (nat_le long (most limit.EdgeText)) s))

    pub show_breaks : may_be_pieces around.design ps ≡ false → false ≡ stands before (show_line around at ps)
    show_breaks s = sym (broken (may_stand around.kind at speaks) all (within of long) (λ t w.
        let f = within_parts before 1 of long w in
        true≢false (sym (both (all && nat_le of (most limit.Nodes)) _ (both all _ t (test_le of (most limit.Nodes) f.0))
        (test_le long (most limit.EdgeText) f.1)) ∙ s)))

  -- ---- `finish` and `stop`

  pub plain_step : (allowed : Bool) → allowed ≡ may_stand around.kind at speaks
      → (allowed && within 0 0) ≡ ((may_stand around.kind at speaks && true) && within 0 0)
  plain_step allowed a = flag_is allowed (may_stand around.kind at speaks) true (within 0 0) a refl

  -- ---- `count`

  pub count_stands : (counter v counters : ℕ) (allowed : Bool) → around.counters ≡ counters → v ≡ counter → allowed ≡ may_stand around.kind at counts
      → ((allowed && nat_lt v counters) && within 0 0) ≡ stands before (count_line around at counter)
  count_stands counter v counters allowed c e a =
      ap (λ m. (m && nat_lt v counters) && within 0 0) a ∙ ap (λ n. (may_stand around.kind at counts && nat_lt n counters) && within 0 0) e
      ∙ ap (λ n. (may_stand around.kind at counts && nat_lt counter n) && within 0 0) (sym c)

  pub count_breaks : (counter : ℕ) → around.counters < 2 ^ 32 → None ≡ below (2 ^ 32) counter → false ≡ stands before (count_line around at counter)
  count_breaks counter c e =
      sym (broken (may_stand around.kind at counts) (nat_lt counter around.counters) (within 0 0) (λ t w. far counter around.counters (none counter e) c t))
    where
      none : (n : ℕ) → None ≡ below (2 ^ 32) n → nat_lt n (2 ^ 32) ≡ false
      none n e = by (nat_lt n (2 ^ 32)) refl e
        where
          by : (b : Bool) → nat_lt n (2 ^ 32) ≡ b → None ≡ cond b (Some n) None → nat_lt n (2 ^ 32) ≡ false
          by true p e = absurd (cc)
          by false p e = p

      far : (n m : ℕ) → nat_lt n (2 ^ 32) ≡ false → m < 2 ^ 32 → nat_lt n m ≡ true → ⊥
      far n m h k l = grind (arith, nat_tests)

-- a width is at most 128
pub not_wide : (w : ℕ) → 128 < w → is_width w ≡ true → ⊥
not_wide w h e = grind (arith, nat_tests)
