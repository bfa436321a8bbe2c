-- An assignment is one `set`, a cover one `if` with counts alone.
use Rattle.std.proofs.Common.{◌≡◌, ℕ, ◌+◌, Bool, true, false, List, [], ◌∷◌, ◌++◌, map, length, refl, sym, ◌∙◌, ap, subst, eqb}
use Rattle.std.specs.Prelude.{◌&&◌, nat_lt, nat_le, All}
use Rattle.std.specs.List.{AllByRecursion}
use Rattle.std.proofs.lemmas.Bool.{true≢false}
use Rattle.cov_types.specs.declared.kind.ProcessKind.{ProcessKind}
use Rattle.cov_types.specs.declared.kind.ProcessKind.TheVariants.{Assign, Cover}
use Rattle.design_tree.specs.declared.design.Design.{Design}
use Rattle.design_tree.specs.declared.step.Step.{Step, Step-F, fold-Step}
use Rattle.design_tree.specs.declared.step.Step.TheVariants as step
use Rattle.design_tree.specs.declared.step.Step.TheOpen as s
use Rattle.design_tree.specs.declared.step.Target.{Target}
use Rattle.design_tree.specs.declared.typed.Typed.{Typed}
use Rattle.design_meaning.proofs.Listed.{by_recursion, by_index}
use Rattle.design_meaning.proofs.StepFolds.{fold-Set, fold-Later, fold-If, fold-Case, fold-Show, fold-Finish, fold-Stop, fold-Count}
use Rattle.design_meaning.proofs.StepInduction.{step_induction}
use Rattle.design_meaning.specs.Mentions.{Mention, concat_all, step_mentions, arm_mentions}
use Rattle.design_meaning.specs.Sizes.{depth}
use Rattle.design_meaning.specs.ValidProcesses.{IsOneSet, IsCount, IsOneTest}
use Rattle.design_meaning.specs.WellFormed.{is_step, step_formed, arm_formed, all_of}
use Rattle.design_meaning.specs.WellTyped.{is_typed}
use Rattle.design_meaning.specs.Widths.{width_of}
use Rattle.cvd_text.specs.Steps.{Around, Spot, spot, Sort, sets, tests, counts, other, speaks, may_stand, StepText, ArmText, step_lines, arm_lines}
use Rattle.cvd_text.specs.Steps.{lines_of_step, in_turn}
use Rattle.cvd_text.specs.Targets.{is_expression, takes_value}
use Rattle.spelling_laws.proofs.Fitting.{first_true, second_true, both_true}
use Rattle.cvd_step_laws.specs.StepMarks.{block_lines_at, end_line}
use Rattle.cvd_valid_laws.proofs.Conditions.{mentions_in, ok, Fine, FineBlock, fine_steps}
use Rattle.cvd_valid_laws.proofs.Standing.{holds_all, holds_join, holds_front, holds_back}
use Rattle.cvd_valid_laws.proofs.StepStands.{takes, own_line, is_deep}

-- ---- what a step is by its first line

abbrev sort_of : Step-F Sort Sort → Sort
sort_of (s.Set targets value) = sets
sort_of (s.Later targets value) = other
sort_of (s.If test left right) = tests
sort_of (s.Case on arms rest) = other
sort_of (s.Show pieces) = speaks
sort_of s.Finish = speaks
sort_of s.Stop = speaks
sort_of (s.Count counter) = counts

abbrev arm_sort : s.StepArm-F Sort Sort → Sort
arm_sort arm = other

abbrev pub sort_in : Step → Sort
sort_in = fold-Step Sort Sort sort_of arm_sort

data Form (one : Step) : Type 0 where
  as_set : (targets : List Target) (value : Typed) → one ≡ step.Set targets value → sort_in one ≡ sets → Form one
  as_if : (test : Typed) (left right : List Step) → one ≡ step.If test left right → sort_in one ≡ tests → Form one
  as_count : (counter : ℕ) → one ≡ step.Count counter → sort_in one ≡ counts → Form one
  as_other : sort_in one ≡ other → Form one
  as_speaks : sort_in one ≡ speaks → Form one

form : (one : Step) → Form one
form = step_induction Form
    (λ targets value. as_set targets value refl (fold-Set Sort Sort sort_of arm_sort targets value))
    (λ targets value. as_other (fold-Later Sort Sort sort_of arm_sort targets value))
    (λ test left right p q. as_if test left right refl (fold-If Sort Sort sort_of arm_sort test left right))
    (λ on arms rest p q. as_other (fold-Case Sort Sort sort_of arm_sort on arms rest))
    (λ pieces. as_speaks (fold-Show Sort Sort sort_of arm_sort pieces))
    (as_speaks (fold-Finish Sort Sort sort_of arm_sort))
    (as_speaks (fold-Stop Sort Sort sort_of arm_sort))
    (λ counter. as_count counter refl (fold-Count Sort Sort sort_of arm_sort counter))

abbrev at_spot : Spot → StepText → Bool
at_spot at text = holds_all (text at)

-- where a step's lines hold, it may stand there
module _ (A : Around) where
  abbrev MayStand : Step → Type 0
  MayStand one = (at : Spot) → holds_all (lines_of_step A one at) ≡ true → may_stand A.kind at (sort_in one) ≡ true

  front : (at : Spot) (sort : Sort) (one : Step) (holds more : Bool) → sort_in one ≡ sort → ((may_stand A.kind at sort && holds) && more) ≡ true
      → may_stand A.kind at (sort_in one) ≡ true
  front at sort one holds more e f =
      ap (may_stand A.kind at) e ∙ first_true (may_stand A.kind at sort) holds (first_true (may_stand A.kind at sort && holds) more f)

  pub first_stands : (one : Step) → MayStand one
  first_stands = step_induction MayStand
      (λ targets value at e. front at sets (step.Set targets value) _ _ (fold-Set Sort Sort sort_of arm_sort targets value)
      (sym (ap (at_spot at) (fold-Set StepText ArmText (step_lines A) (arm_lines A) targets value)) ∙ e))
      (λ targets value at e. front at other (step.Later targets value) _ _ (fold-Later Sort Sort sort_of arm_sort targets value)
      (sym (ap (at_spot at) (fold-Later StepText ArmText (step_lines A) (arm_lines A) targets value)) ∙ e))
      (λ test left right p q at e. front at tests (step.If test left right) _ _ (fold-If Sort Sort sort_of arm_sort test left right)
      (sym (ap (at_spot at) (fold-If StepText ArmText (step_lines A) (arm_lines A) test left right)) ∙ e))
      (λ on arms rest p q at e. front at other (step.Case on arms rest) _ _ (fold-Case Sort Sort sort_of arm_sort on arms rest)
      (sym (ap (at_spot at) (fold-Case StepText ArmText (step_lines A) (arm_lines A) on arms rest)) ∙ e))
      (λ pieces at e. front at speaks (step.Show pieces) _ _ (fold-Show Sort Sort sort_of arm_sort pieces)
      (sym (ap (at_spot at) (fold-Show StepText ArmText (step_lines A) (arm_lines A) pieces)) ∙ e))
      (λ at e. front at speaks step.Finish _ _ (fold-Finish Sort Sort sort_of arm_sort)
      (sym (ap (at_spot at) (fold-Finish StepText ArmText (step_lines A) (arm_lines A))) ∙ e))
      (λ at e. front at speaks step.Stop _ _ (fold-Stop Sort Sort sort_of arm_sort)
      (sym (ap (at_spot at) (fold-Stop StepText ArmText (step_lines A) (arm_lines A))) ∙ e))
      (λ counter at e. front at counts (step.Count counter) _ _ (fold-Count Sort Sort sort_of arm_sort counter)
      (sym (ap (at_spot at) (fold-Count StepText ArmText (step_lines A) (arm_lines A) counter)) ∙ e))

-- a step of a sort that may not stand there
never : (k : ProcessKind) (at : Spot) (one : Step) (sort : Sort) → may_stand k at (sort_in one) ≡ true → sort_in one ≡ sort → may_stand k at sort ≡ false → ⊥
never k at one sort e f none = true≢false (sym e ∙ ap (may_stand k at) f ∙ none)

not_second : (sort : Sort) → (may_stand Assign (spot 1 1) sort ≡ false) × (may_stand Cover (spot 1 1) sort ≡ false)
not_second sets = (refl, refl)
not_second tests = (refl, refl)
not_second counts = (refl, refl)
not_second other = (refl, refl)
not_second speaks = (refl, refl)

module _ (d : Design) (counters : ℕ) where
  abbrev around : ProcessKind → Around
  around k = record { design = d; counters = counters; kind = k }

  -- ---- from lines to shapes

  set_first : (one : Step) → may_stand Assign (spot 1 0) (sort_in one) ≡ true → Form one → IsOneSet (one ∷ [])
  set_first one e (as_set targets value same sort) = (targets, value, ap (λ x. x ∷ []) same)
  set_first one e (as_if test left right same sort) = absurd (never Assign (spot 1 0) one tests e sort refl)
  set_first one e (as_count counter same sort) = absurd (never Assign (spot 1 0) one counts e sort refl)
  set_first one e (as_other sort) = absurd (never Assign (spot 1 0) one other e sort refl)
  set_first one e (as_speaks sort) = absurd (never Assign (spot 1 0) one speaks e sort refl)

  pub one_set : (body : List Step) → holds_all (block_lines_at (around Assign) 1 body) ≡ true → IsOneSet body
  one_set [] e = absurd (true≢false (sym e))
  one_set (one ∷ []) e =
      let A = around Assign in
      let here = lines_of_step A one (spot 1 0) in
      let ends = end_line A 1 1 ∷ [] in
      set_first one (first_stands A one (spot 1 0) (holds_front here [] (holds_front (here ++ []) ends e))) (form one)
  one_set (one ∷ two ∷ steps) e =
      let A = around Assign in
      let here = lines_of_step A one (spot 1 0) in
      let there = lines_of_step A two (spot 1 1) in
      let more = in_turn (spot 1 2) (map (lines_of_step A) steps) in
      let ends = end_line A 1 (length (map (lines_of_step A) (one ∷ two ∷ steps))) ∷ [] in
      let turn = holds_front (here ++ (there ++ more)) ends e in
      let e2 = first_stands A two (spot 1 1) (holds_front there more (holds_back here (there ++ more) turn)) in
      absurd (never Assign (spot 1 1) two (sort_in two) e2 refl (not_second (sort_in two)).0)

  count_inside : (one : Step) (before : ℕ) → may_stand Cover (spot 2 before) (sort_in one) ≡ true → Form one → IsCount one
  count_inside one before e (as_count counter same sort) = (counter, same)
  count_inside one before e (as_set targets value same sort) = absurd (never Cover (spot 2 before) one sets e sort refl)
  count_inside one before e (as_if test left right same sort) = absurd (never Cover (spot 2 before) one tests e sort refl)
  count_inside one before e (as_other sort) = absurd (never Cover (spot 2 before) one other e sort refl)
  count_inside one before e (as_speaks sort) = absurd (never Cover (spot 2 before) one speaks e sort refl)

  counts_inside : (before : ℕ) (steps : List Step) → holds_all (in_turn (spot 2 before) (map (lines_of_step (around Cover)) steps)) ≡ true
      → AllByRecursion IsCount steps
  counts_inside before [] e = tt
  counts_inside before (one ∷ steps) e =
      let A = around Cover in
      let here = lines_of_step A one (spot 2 before) in
      let more = in_turn (spot 2 (before + 1)) (map (lines_of_step A) steps) in (
        count_inside one before (first_stands A one (spot 2 before) (holds_front here more e)) (form one),
        counts_inside (before + 1) steps (holds_back here more e),
      )

  all_counts : (steps : List Step) → holds_all (block_lines_at (around Cover) 2 steps) ≡ true → All IsCount steps
  all_counts steps e =
      let turn = in_turn (spot 2 0) (map (lines_of_step (around Cover)) steps) in
      let ends = end_line (around Cover) 2 (length (map (lines_of_step (around Cover)) steps)) ∷ [] in
      by_index IsCount steps (counts_inside 0 steps (holds_front turn ends e))

  test_first : (one : Step) → holds_all (lines_of_step (around Cover) one (spot 1 0)) ≡ true → Form one → IsOneTest (one ∷ [])
  test_first one e (as_if test left right same sort) =
      let A = around Cover in
      let first = block_lines_at A 2 left in
      let second = block_lines_at A 2 right in
      let e2 : ((is_expression d test && eqb (width_of d test) 1) && holds_all (first ++ second)) ≡ true
      = sym (ap (at_spot (spot 1 0)) (ap (lines_of_step A) same ∙ fold-If StepText ArmText (step_lines A) (arm_lines A) test left right)) ∙ e in
      let inner = second_true (is_expression d test && eqb (width_of d test) 1) (holds_all (first ++ second)) e2 in
      (test, left, right, ap (λ x. x ∷ []) same, all_counts left (holds_front first second inner), all_counts right (holds_back first second inner))
  test_first one e (as_set targets value same sort) = absurd (never Cover (spot 1 0) one sets (first_stands (around Cover) one (spot 1 0) e) sort refl)
  test_first one e (as_count counter same sort) = absurd (never Cover (spot 1 0) one counts (first_stands (around Cover) one (spot 1 0) e) sort refl)
  test_first one e (as_other sort) = absurd (never Cover (spot 1 0) one other (first_stands (around Cover) one (spot 1 0) e) sort refl)
  test_first one e (as_speaks sort) = absurd (never Cover (spot 1 0) one speaks (first_stands (around Cover) one (spot 1 0) e) sort refl)

  pub one_test : (body : List Step) → holds_all (block_lines_at (around Cover) 1 body) ≡ true → IsOneTest body
  one_test [] e = absurd (true≢false (sym e))
  one_test (one ∷ []) e =
      let A = around Cover in
      let here = lines_of_step A one (spot 1 0) in
      let ends = end_line A 1 1 ∷ [] in
      test_first one (holds_front here [] (holds_front (here ++ []) ends e)) (form one)
  one_test (one ∷ two ∷ steps) e =
      let A = around Cover in
      let here = lines_of_step A one (spot 1 0) in
      let there = lines_of_step A two (spot 1 1) in
      let more = in_turn (spot 1 2) (map (lines_of_step A) steps) in
      let ends = end_line A 1 (length (map (lines_of_step A) (one ∷ two ∷ steps))) ∷ [] in
      let turn = holds_front (here ++ (there ++ more)) ends e in
      let e2 = first_stands A two (spot 1 1) (holds_front there more (holds_back here (there ++ more) turn)) in
      absurd (never Cover (spot 1 1) two (sort_in two) e2 refl (not_second (sort_in two)).1)

  -- ---- from shapes to lines

  pub assign_stands : (body : List Step) → IsOneSet body → FineBlock d counters Assign 1 body → holds_all (block_lines_at (around Assign) 1 body) ≡ true
  assign_stands body (targets, value, same) =
      subst (λ l. FineBlock d counters Assign 1 l → holds_all (block_lines_at (around Assign) 1 l)
      ≡ true) (sym same) (λ b. by (fine_steps d counters Assign 1 (step.Set targets value ∷ []) b).0)
    where
      by : Fine d counters Assign 1 (step.Set targets value) → holds_all (block_lines_at (around Assign) 1 (step.Set targets value ∷ [])) ≡ true
      by b =
          let A = around Assign in
          let here = lines_of_step A (step.Set targets value) (spot 1 0) in
          let ends = end_line A 1 1 ∷ [] in
          let e = ap (at_spot (spot 1 0)) (fold-Set StepText ArmText (step_lines A) (arm_lines A) targets value)
          ∙ own_line d counters Assign (spot 1 0) sets (takes_value d Assign targets value) refl
          (takes d counters Assign targets value (sym (fold-Set Bool (ℕ → Bool) (step_formed d counters) (arm_formed d) targets value) ∙ b.formed)
          (sym (ap (ok d counters Assign) (fold-Set (List Mention) (List Mention) step_mentions arm_mentions targets value)) ∙ b.mentions)) in
          holds_join (here ++ []) ends (holds_join here [] e refl) refl

  counts_stand : (before : ℕ) (steps : List Step) → AllByRecursion IsCount steps → all_of (map (is_step d counters) steps) ≡ true
      → holds_all (in_turn (spot 2 before) (map (lines_of_step (around Cover)) steps)) ≡ true
  counts_stand before [] each e = refl
  counts_stand before (one ∷ steps) each e =
      let A = around Cover in
      let here = lines_of_step A one (spot 2 before) in
      let more = in_turn (spot 2 (before + 1)) (map (lines_of_step A) steps) in
      let counter = each.0.0 in
      let same = each.0.1 in
      let formed : nat_lt counter counters ≡ true
      = sym (ap (is_step d counters) same ∙ fold-Count Bool (ℕ → Bool) (step_formed d counters) (arm_formed d) counter)
      ∙ first_true (is_step d counters one) (all_of (map (is_step d counters) steps)) e in
      let stands : holds_all here ≡ true
      = ap (at_spot (spot 2 before)) (ap (lines_of_step A) same ∙ fold-Count StepText ArmText (step_lines A) (arm_lines A) counter)
      ∙ own_line d counters Cover (spot 2 before) counts (nat_lt counter counters) refl formed in
      holds_join here more stands
      (counts_stand (before + 1) steps each.1 (second_true (is_step d counters one) (all_of (map (is_step d counters) steps)) e))

  counts_block : (steps : List Step) → All IsCount steps → all_of (map (is_step d counters) steps) ≡ true
      → holds_all (block_lines_at (around Cover) 2 steps) ≡ true
  counts_block steps each e =
      let turn = in_turn (spot 2 0) (map (lines_of_step (around Cover)) steps) in
      let ends = end_line (around Cover) 2 (length (map (lines_of_step (around Cover)) steps)) ∷ [] in
      holds_join turn ends (counts_stand 0 steps (by_recursion IsCount steps each) e) refl

  pub cover_stands : (body : List Step) → IsOneTest body → FineBlock d counters Cover 1 body → holds_all (block_lines_at (around Cover) 1 body) ≡ true
  cover_stands body (test, left, right, same, ls, rs) =
      subst (λ l. FineBlock d counters Cover 1 l → holds_all (block_lines_at (around Cover) 1 l) ≡ true) (sym same)
      (λ b. by (fine_steps d counters Cover 1 (step.If test left right ∷ []) b).0)
    where
      by : Fine d counters Cover 1 (step.If test left right) → holds_all (block_lines_at (around Cover) 1 (step.If test left right ∷ [])) ≡ true
      by b =
          let A = around Cover in
          let here = lines_of_step A (step.If test left right) (spot 1 0) in
          let ends = end_line A 1 1 ∷ [] in
          let first = block_lines_at A 2 left in
          let second = block_lines_at A 2 right in
          let wide = eqb (width_of d test) 1 in
          let l = all_of (map (is_step d counters) left) in
          let r = all_of (map (is_step d counters) right) in
          let formed : (is_typed d test && wide && l && r) ≡ true
          = sym (fold-If Bool (ℕ → Bool) (step_formed d counters) (arm_formed d) test left right) ∙ b.formed in
          let front = first_true (is_typed d test && wide && l) r formed in
          let head = first_true (is_typed d test && wide) l front in
          let mentions = sym (ap (ok d counters Cover) (fold-If (List Mention) (List Mention) step_mentions arm_mentions test left right)) ∙ b.mentions in
          let more = ok d counters Cover (concat_all (map mentions_in left) ++ concat_all (map mentions_in right)) in
          let e : holds_all here ≡ true = ap (at_spot (spot 1 0)) (fold-If StepText ArmText (step_lines A) (arm_lines A) test left right)
          ∙ both_true (is_expression d test && wide) (holds_all (first ++ second))
          (both_true (is_expression d test) wide
          (is_deep d counters Cover test (first_true (is_typed d test) wide head) (first_true (nat_le (depth test) 2000) more mentions))
          (second_true (is_typed d test) wide head))
          (holds_join first second (counts_block left ls (second_true (is_typed d test && wide) l front))
          (counts_block right rs (second_true (is_typed d test && wide && l) r formed))) in
          holds_join (here ++ []) ends (holds_join here [] e refl) refl
