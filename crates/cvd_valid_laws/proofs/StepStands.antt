-- Where steps are well formed and mention what they may, their lines hold, in a process of any kind that takes each step everywhere.
use Rattle.std.proofs.Common.{◌≡◌, ℕ, ◌+◌, ◌≤◌, Bool, true, false, List, [], ◌∷◌, ◌++◌, map, length, refl, sym, ◌∙◌, ap, arith, eqb}
use Rattle.std.specs.Prelude.{◌&&◌, ◌||◌, ◌^◌, nat_le, nat_lt, flat_map}
use Rattle.std.specs.List.{list_all, AllByRecursion}
use Rattle.std.proofs.lemmas.Bool.{true≢false}
use Rattle.cov_types.specs.declared.kind.ProcessKind.{ProcessKind}
use Rattle.design_tree.specs.declared.design.Design.{Design}
use Rattle.design_tree.specs.declared.step.Step.{Step}
use Rattle.design_tree.specs.declared.step.Step.TheVariants as step
use Rattle.design_tree.specs.declared.step.StepArm.{StepArm, fold_out-StepArm}
use Rattle.design_tree.specs.declared.step.StepItem.{StepItem}
use Rattle.design_tree.specs.declared.step.Target.{Target}
use Rattle.design_tree.specs.declared.typed.Typed.{Typed}
use Rattle.design_meaning.proofs.StepFolds.{fold-Set, fold-Later, fold-If, fold-Case, fold-Show, fold-Finish, fold-Stop, fold-Count}
use Rattle.design_meaning.proofs.StepInduction.{ArmHas, step_induction}
use Rattle.design_meaning.specs.Mentions.{Mention, expression, destination, concat_all, step_mentions, arm_mentions, item_mentions}
use Rattle.design_meaning.specs.Sizes.{depth, step_depth, arm_depth}
use Rattle.design_meaning.specs.ValidProcesses.{may_tell}
use Rattle.design_meaning.specs.WellFormed.{is_step, step_formed, arm_formed, all_of, any_of, is_item, tells, step_tells, arm_tells}
use Rattle.design_meaning.specs.WellTyped.{is_typed, is_target}
use Rattle.design_meaning.specs.Widths.{width_of, widths_named}
use Rattle.cvd_text.specs.Steps.{Around, Spot, spot, Sort, sets, tests, counts, other, speaks, may_stand, may_be_empty, StepText, ArmText, step_lines}
use Rattle.cvd_text.specs.Steps.{arm_lines, lines_of_step, in_turn, item_line}
use Rattle.cvd_text.specs.Targets.{is_expression, may_write, takes_value, is_piece}
use Rattle.spelling_laws.proofs.Fitting.{first_true, second_true, both_true}
use Rattle.cvd_step_laws.specs.StepMarks.{lines_of_arm, arm_lines_at, block_lines_at, end_line}
use Rattle.cvd_valid_laws.proofs.Conditions.{mentions_in, arm_mentions_in, is_arm, may_mention, all_front, all_back, ok, Quiet, Fine, FineBlock, FineArm}
use Rattle.cvd_valid_laws.proofs.Conditions.{fine_steps, fine_arms, may_write_all, is_piece_all, arm_tells_in, first_false, second_false}
use Rattle.cvd_valid_laws.proofs.Standing.{holds_all, holds_join, of_le}

-- one of several
or_first : (a b : Bool) → a ≡ true → (a || b) ≡ true
or_first true b e = refl
or_first false b e = absurd (true≢false (sym e))

module _ (d : Design) (counters : ℕ) (k : ProcessKind) where
  abbrev A : Around
  A = record { design = d; counters = counters; kind = k }

  -- ---- what a line says beside where it may stand

  pub own_line : (at : Spot) (sort : Sort) (holds : Bool) → may_stand k at sort ≡ true → holds ≡ true → ((may_stand k at sort && holds) && true) ≡ true
  own_line at sort holds e f = both_true (may_stand k at sort && holds) true (both_true (may_stand k at sort) holds e f) refl

  pub is_deep : (e : Typed) → is_typed d e ≡ true → nat_le (depth e) 2000 ≡ true → is_expression d e ≡ true
  is_deep e t n = both_true (is_typed d e) (nat_le (depth e) 2000) t n

  pub takes : (targets : List Target) (value : Typed)
      → (list_all (is_target d) targets && is_typed d value && eqb (widths_named d targets) (width_of d value)) ≡ true
      → ok d counters k (map destination targets ++ expression value ∷ []) ≡ true → takes_value d k targets value ≡ true
  takes targets value f m =
      let typed = list_all (is_target d) targets && is_typed d value in
      let wide = eqb (widths_named d targets) (width_of d value) in
      let front = first_true typed wide f in
      both_true (list_all (may_write d k) targets && is_expression d value) wide
      (both_true (list_all (may_write d k) targets) (is_expression d value)
      (may_write_all d counters k targets (first_true (list_all (is_target d) targets) (is_typed d value) front)
      (all_front (may_mention d k) (map destination targets) (expression value ∷ []) m))
      (is_deep value (second_true (list_all (is_target d) targets) (is_typed d value) front)
      (first_true (nat_le (depth value) 2000) true (all_back (may_mention d k) (map destination targets) (expression value ∷ []) m))))
      (second_true typed wide f)

  item_back : (width : ℕ) (item : StepItem) → is_item d width item ≡ true → nat_le (depth item.value) 2000 ≡ true → (item_line A width item).holds ≡ true
  item_back width item e n =
      let wide = eqb (width_of d item.value) width in
      let small = nat_lt item.mask (2 ^ width) in
      let front = first_true (is_typed d item.value && wide) small e in
      both_true (is_expression d item.value && wide) small
      (both_true (is_expression d item.value) wide (is_deep item.value (first_true (is_typed d item.value) wide front) n)
      (second_true (is_typed d item.value) wide front))
      (second_true (is_typed d item.value && wide) small e)

  items_back : (width : ℕ) (items : List StepItem) → list_all (is_item d width) items ≡ true → ok d counters k (flat_map item_mentions items) ≡ true
      → holds_all (map (item_line A width) items) ≡ true
  items_back width [] e m = refl
  items_back width (item ∷ items) e m =
      both_true (item_line A width item).holds _
      (item_back width item (first_true (is_item d width item) _ e) (first_true (nat_le (depth item.value) 2000) _ m))
      (items_back width items (second_true (is_item d width item) _ e) (second_true (nat_le (depth item.value) 2000) _ m))

  module _ (empty : may_be_empty k ≡ true) (free_sets : (at : Spot) → may_stand k at sets ≡ true) (free_tests : (at : Spot) → may_stand k at tests ≡ true)
      (free_counts : (at : Spot) → may_stand k at counts ≡ true) (free_other : (at : Spot) → may_stand k at other ≡ true)
      (free_speaks : (at : Spot) → may_tell k ≡ true → may_stand k at speaks ≡ true) where
    abbrev Stands : Step → Type 0
    Stands one = (deep before : ℕ) → Fine d counters k deep one → holds_all (lines_of_step A one (spot deep before)) ≡ true

    turn_back : (deep before : ℕ) (steps : List Step) → AllByRecursion Stands steps → AllByRecursion (Fine d counters k deep) steps
        → holds_all (in_turn (spot deep before) (map (lines_of_step A) steps)) ≡ true
    turn_back deep before [] each fine = refl
    turn_back deep before (one ∷ steps) each fine =
        holds_join (lines_of_step A one (spot deep before)) (in_turn (spot deep (before + 1)) (map (lines_of_step A) steps)) (each.0 deep before fine.0)
        (turn_back deep (before + 1) steps each.1 fine.1)

    block_back : (deep : ℕ) (steps : List Step) → AllByRecursion Stands steps → FineBlock d counters k deep steps
        → holds_all (block_lines_at A deep steps) ≡ true
    block_back deep steps each b =
        let turn = in_turn (spot deep 0) (map (lines_of_step A) steps) in
        let count = length (map (lines_of_step A) steps) in
        let ends = end_line A deep count ∷ [] in
        let small : deep ≤ 700 = omega (arith, b.blocks) in
        both_true (nat_le deep 700) (holds_all (turn ++ ends)) (of_le deep 700 small)
        (holds_join turn ends (turn_back deep 0 steps each (fine_steps d counters k deep steps b))
        (both_true ((may_be_empty k || nat_lt 1 deep) || nat_lt 0 count) true
        (or_first (may_be_empty k || nat_lt 1 deep) (nat_lt 0 count) (or_first (may_be_empty k) (nat_lt 1 deep) empty)) refl))

    arm_back : (width deep : ℕ) (arm : StepArm) → ArmHas Stands arm → FineArm d counters k width deep arm → holds_all (arm_lines_at A width deep arm) ≡ true
    arm_back width deep arm each b =
        let rows = map (item_line A width) arm.items in
        let inner = block_lines_at A (deep + 1) arm.body in
        let formed = sym (ap (λ (f : ℕ → Bool). f width) (fold_out-StepArm Bool (ℕ → Bool) (step_formed d counters) (arm_formed d) arm)) ∙ b.formed in
        let mentions = sym (ap (ok d counters k) (fold_out-StepArm (List Mention) (List Mention) step_mentions arm_mentions arm)) ∙ b.mentions in
        let z = fold_out-StepArm ℕ ℕ step_depth arm_depth arm in
        ap (λ (f : ArmText). holds_all (f width deep)) (fold_out-StepArm StepText ArmText (step_lines A) (arm_lines A) arm)
        ∙ holds_join rows inner
        (items_back width arm.items (first_true (list_all (is_item d width) arm.items) (all_of (map (is_step d counters) arm.body)) formed)
        (all_front (may_mention d k) (flat_map item_mentions arm.items) (concat_all (map mentions_in arm.body)) mentions))
        (block_back (deep + 1) arm.body each (record {
          formed = second_true (list_all (is_item d width) arm.items) (all_of (map (is_step d counters) arm.body)) formed;
          quiet = λ q. sym (fold_out-StepArm Bool Bool step_tells arm_tells arm) ∙ b.quiet q;
          mentions = all_back (may_mention d k) (flat_map item_mentions arm.items) (concat_all (map mentions_in arm.body)) mentions;
          blocks = omega (arith, b.blocks);
        }))

    arms_back : (width deep : ℕ) (arms : List StepArm) → AllByRecursion (ArmHas Stands) arms → AllByRecursion (FineArm d counters k width deep) arms
        → holds_all (flat_map (λ (arm : ArmText). arm width deep) (map (lines_of_arm A) arms)) ≡ true
    arms_back width deep [] each fine = refl
    arms_back width deep (arm ∷ arms) each fine =
        holds_join (arm_lines_at A width deep arm) (flat_map (λ (arm : ArmText). arm width deep) (map (lines_of_arm A) arms))
        (arm_back width deep arm each.0 fine.0) (arms_back width deep arms each.1 fine.1)

    -- ---- steps

    abbrev at_spot : Spot → StepText → Bool
    at_spot at text = holds_all (text at)

    if_back : (test : Typed) (left right : List Step) → AllByRecursion Stands left → AllByRecursion Stands right → Stands (step.If test left right)
    if_back test left right p q deep before b =
        let at = spot deep before in
        let first = block_lines_at A (deep + 1) left in
        let second = block_lines_at A (deep + 1) right in
        let wide = eqb (width_of d test) 1 in
        let l = all_of (map (is_step d counters) left) in
        let r = all_of (map (is_step d counters) right) in
        let formed : (is_typed d test && wide && l && r) ≡ true
        = sym (fold-If Bool (ℕ → Bool) (step_formed d counters) (arm_formed d) test left right) ∙ b.formed in
        let front = first_true (is_typed d test && wide && l) r formed in
        let head = first_true (is_typed d test && wide) l front in
        let mentions = sym (ap (ok d counters k) (fold-If (List Mention) (List Mention) step_mentions arm_mentions test left right)) ∙ b.mentions in
        let inner = second_true (nat_le (depth test) 2000) (ok d counters k (concat_all (map mentions_in left)
        ++ concat_all (map mentions_in right))) mentions in
        let z = fold-If ℕ ℕ step_depth arm_depth test left right in
        ap (at_spot at) (fold-If StepText ArmText (step_lines A) (arm_lines A) test left right)
        ∙ both_true (may_stand k at tests && (is_expression d test && wide)) (holds_all (first ++ second))
        (both_true (may_stand k at tests) (is_expression d test && wide) (free_tests at)
        (both_true (is_expression d test) wide (is_deep test (first_true (is_typed d test) wide head)
        (first_true (nat_le (depth test) 2000) (ok d counters k (concat_all (map mentions_in left) ++ concat_all (map mentions_in right))) mentions))
        (second_true (is_typed d test) wide head)))
        (holds_join first second
        (block_back (deep + 1) left p (record {
          formed = second_true (is_typed d test && wide) l front;
          quiet = λ s. first_false (any_of (map tells left)) (any_of (map tells right))
              (sym (fold-If Bool Bool step_tells arm_tells test left right) ∙ b.quiet s);
          mentions = all_front (may_mention d k) (concat_all (map mentions_in left)) (concat_all (map mentions_in right)) inner;
          blocks = omega (arith, b.blocks);
        }))
        (block_back (deep + 1) right q (record {
          formed = second_true (is_typed d test && wide && l) r formed;
          quiet = λ s. second_false (any_of (map tells left)) (any_of (map tells right))
              (sym (fold-If Bool Bool step_tells arm_tells test left right) ∙ b.quiet s);
          mentions = all_back (may_mention d k) (concat_all (map mentions_in left)) (concat_all (map mentions_in right)) inner;
          blocks = omega (arith, b.blocks);
        })))

    case_back : (on : Typed) (arms : List StepArm) (rest : List Step) → AllByRecursion (ArmHas Stands) arms → AllByRecursion Stands rest
        → Stands (step.Case on arms rest)
    case_back on arms rest p q deep before b =
        let at = spot deep before in
        let width = width_of d on in
        let first = flat_map (λ (arm : ArmText). arm width deep) (map (lines_of_arm A) arms) in
        let second = block_lines_at A (deep + 1) rest in
        let a = list_all (λ (arm : ℕ → Bool). arm width) (map (is_arm d counters) arms) in
        let r = all_of (map (is_step d counters) rest) in
        let formed : (is_typed d on && a && r) ≡ true
        = sym (fold-Case Bool (ℕ → Bool) (step_formed d counters) (arm_formed d) on arms rest) ∙ b.formed in
        let front = first_true (is_typed d on && a) r formed in
        let mentions = sym (ap (ok d counters k) (fold-Case (List Mention) (List Mention) step_mentions arm_mentions on arms rest)) ∙ b.mentions in
        let more = ok d counters k (concat_all (map arm_mentions_in arms) ++ concat_all (map mentions_in rest)) in
        let inner = second_true (nat_le (depth on) 2000) more mentions in
        let z = fold-Case ℕ ℕ step_depth arm_depth on arms rest in
        ap (at_spot at) (fold-Case StepText ArmText (step_lines A) (arm_lines A) on arms rest)
        ∙ both_true (may_stand k at other && is_expression d on) (holds_all (first ++ second))
        (both_true (may_stand k at other) (is_expression d on) (free_other at)
        (is_deep on (first_true (is_typed d on) a front) (first_true (nat_le (depth on) 2000) more mentions)))
        (holds_join first second
        (arms_back width deep arms p (fine_arms d counters k width deep arms (record {
          formed = second_true (is_typed d on) a front;
          quiet = λ s. first_false (any_of (map arm_tells_in arms)) (any_of (map tells rest))
              (sym (fold-Case Bool Bool step_tells arm_tells on arms rest) ∙ b.quiet s);
          mentions = all_front (may_mention d k) (concat_all (map arm_mentions_in arms)) (concat_all (map mentions_in rest)) inner;
          blocks = omega (arith, b.blocks);
        })))
        (block_back (deep + 1) rest q (record {
          formed = second_true (is_typed d on && a) r formed;
          quiet = λ s. second_false (any_of (map arm_tells_in arms)) (any_of (map tells rest))
              (sym (fold-Case Bool Bool step_tells arm_tells on arms rest) ∙ b.quiet s);
          mentions = all_back (may_mention d k) (concat_all (map arm_mentions_in arms)) (concat_all (map mentions_in rest)) inner;
          blocks = omega (arith, b.blocks);
        })))

    -- what displays or ends a run stands where it may
    spoken : (says : Bool) → says ≡ true → Quiet d counters k says → (at : Spot) → may_stand k at speaks ≡ true
    spoken says e quiet at = by (may_tell k) refl
      where
        by : (b : Bool) → may_tell k ≡ b → may_stand k at speaks ≡ true
        by true q = free_speaks at q
        by false q = absurd (true≢false (sym e ∙ quiet q))

    pub step_stands : (one : Step) → Stands one
    step_stands = step_induction Stands
        (λ targets value deep before b. ap (at_spot (spot deep before)) (fold-Set StepText ArmText (step_lines A) (arm_lines A) targets value)
        ∙ own_line (spot deep before) sets (takes_value d k targets value) (free_sets (spot deep before))
        (takes targets value (sym (fold-Set Bool (ℕ → Bool) (step_formed d counters) (arm_formed d) targets value) ∙ b.formed)
        (sym (ap (ok d counters k) (fold-Set (List Mention) (List Mention) step_mentions arm_mentions targets value)) ∙ b.mentions)))
        (λ targets value deep before b. ap (at_spot (spot deep before)) (fold-Later StepText ArmText (step_lines A) (arm_lines A) targets value)
        ∙ own_line (spot deep before) other (takes_value d k targets value) (free_other (spot deep before))
        (takes targets value (sym (fold-Later Bool (ℕ → Bool) (step_formed d counters) (arm_formed d) targets value) ∙ b.formed)
        (sym (ap (ok d counters k) (fold-Later (List Mention) (List Mention) step_mentions arm_mentions targets value)) ∙ b.mentions)))
        if_back case_back
        (λ pieces deep before b. ap (at_spot (spot deep before)) (fold-Show StepText ArmText (step_lines A) (arm_lines A) pieces)
        ∙ own_line (spot deep before) speaks (list_all (is_piece d) pieces)
        (spoken (tells (step.Show pieces)) (fold-Show Bool Bool step_tells arm_tells pieces) b.quiet (spot deep before))
        (is_piece_all d counters k pieces (sym (fold-Show Bool (ℕ → Bool) (step_formed d counters) (arm_formed d) pieces) ∙ b.formed)
        (sym (ap (ok d counters k) (fold-Show (List Mention) (List Mention) step_mentions arm_mentions pieces)) ∙ b.mentions)))
        (λ deep before b. ap (at_spot (spot deep before)) (fold-Finish StepText ArmText (step_lines A) (arm_lines A))
        ∙ own_line (spot deep before) speaks true (spoken (tells step.Finish) (fold-Finish Bool Bool step_tells arm_tells) b.quiet (spot deep before)) refl)
        (λ deep before b. ap (at_spot (spot deep before)) (fold-Stop StepText ArmText (step_lines A) (arm_lines A))
        ∙ own_line (spot deep before) speaks true (spoken (tells step.Stop) (fold-Stop Bool Bool step_tells arm_tells) b.quiet (spot deep before)) refl)
        (λ counter deep before b. ap (at_spot (spot deep before)) (fold-Count StepText ArmText (step_lines A) (arm_lines A) counter)
        ∙ own_line (spot deep before) counts (nat_lt counter counters) (free_counts (spot deep before))
        (sym (fold-Count Bool (ℕ → Bool) (step_formed d counters) (arm_formed d) counter) ∙ b.formed))

    all_stand_there : (steps : List Step) → AllByRecursion Stands steps
    all_stand_there [] = tt
    all_stand_there (one ∷ steps) = (step_stands one, all_stand_there steps)

    pub blocks_stand : (deep : ℕ) (steps : List Step) → FineBlock d counters k deep steps → holds_all (block_lines_at A deep steps) ≡ true
    blocks_stand deep steps b = block_back deep steps (all_stand_there steps) b
