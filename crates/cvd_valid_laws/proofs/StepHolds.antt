-- Where the lines of steps hold, the steps are well formed, and mention what they may.
use Rattle.std.proofs.Common.{◌≡◌, ℕ, ◌+◌, ◌≤◌, Bool, true, false, List, [], ◌∷◌, ◌++◌, map, length, refl, sym, ◌∙◌, ap, arith, eqb}
use Rattle.std.specs.Prelude.{◌&&◌, ◌^◌, nat_le, nat_lt, flat_map}
use Rattle.std.specs.List.{list_all, AllByRecursion}
use Rattle.std.proofs.lemmas.Bool.{true≢false}
use Rattle.cov_types.specs.declared.kind.ProcessKind.{ProcessKind}
use Rattle.cov_types.specs.declared.kind.ProcessKind.TheVariants as kind
use Rattle.design_tree.specs.declared.design.Design.{Design}
use Rattle.design_tree.specs.declared.step.Piece.{Piece}
use Rattle.design_tree.specs.declared.step.Step.{Step}
use Rattle.design_tree.specs.declared.step.Step.TheVariants as step
use Rattle.design_tree.specs.declared.step.StepArm.{StepArm, fold_out-StepArm}
use Rattle.design_tree.specs.declared.step.StepItem.{StepItem}
use Rattle.design_tree.specs.declared.step.Target.{Target}
use Rattle.design_tree.specs.declared.typed.Typed.{Typed}
use Rattle.design_meaning.proofs.StepFolds.{fold-Set, fold-Later, fold-If, fold-Case, fold-Show, fold-Finish, fold-Stop, fold-Count}
use Rattle.design_meaning.proofs.StepInduction.{ArmHas, step_induction}
use Rattle.design_meaning.specs.Mentions.{Mention, expression, destination, concat_all, step_mentions, arm_mentions, item_mentions}
use Rattle.design_meaning.specs.Sizes.{depth, step_depth, arm_depth}
use Rattle.design_meaning.specs.ValidProcesses.{may_tell}
use Rattle.design_meaning.specs.WellFormed.{step_formed, arm_formed, any_of, is_item, tells, step_tells, arm_tells}
use Rattle.design_meaning.specs.WellTyped.{is_typed, is_target}
use Rattle.design_meaning.specs.Widths.{width_of, widths_named}
use Rattle.cvd_text.specs.Steps.{Around, Spot, spot, Sort, sets, tests, counts, other, speaks, may_stand, StepText, ArmText, step_lines, arm_lines}
use Rattle.cvd_text.specs.Steps.{lines_of_step, in_turn, item_line}
use Rattle.cvd_text.specs.Targets.{is_expression, may_write, takes_value, is_piece}
use Rattle.spelling_laws.proofs.Fitting.{first_true, second_true, both_true}
use Rattle.cvd_step_laws.specs.StepMarks.{lines_of_arm, arm_lines_at, block_lines_at, end_line}
use Rattle.cvd_valid_laws.proofs.Conditions.{mentions_in, arm_mentions_in, may_mention, all_join, ok, Fine, FineBlock, FineArm, steps_fine, arms_fine}
use Rattle.cvd_valid_laws.proofs.Conditions.{targets_typed, targets_ok, pieces_typed, pieces_ok, arm_tells_in, neither}
use Rattle.cvd_valid_laws.proofs.Standing.{holds_all, holds_front, holds_back, le_of}

-- what is not displayed where nothing may be
pub not_spoken : (k : ProcessKind) (at : Spot) → may_stand k at speaks ≡ true → may_tell k ≡ false → ⊥
not_spoken kind.Assign at e q = true≢false (sym e)
not_spoken kind.Comb at e q = true≢false (sym e)
not_spoken kind.Cover at e q = true≢false (sym e)
not_spoken kind.Clocked at e q = true≢false q
not_spoken kind.Initial at e q = true≢false q

module _ (d : Design) (counters : ℕ) (k : ProcessKind) where
  abbrev A : Around
  A = record { design = d; counters = counters; kind = k }

  abbrev Told : Step → Type 0
  Told one = (deep before : ℕ) → deep ≤ 700 → holds_all (lines_of_step A one (spot deep before)) ≡ true → Fine d counters k deep one

  -- ---- blocks and arms

  turn_told : (deep before : ℕ) (steps : List Step) → AllByRecursion Told steps → deep ≤ 700
      → holds_all (in_turn (spot deep before) (map (lines_of_step A) steps)) ≡ true → AllByRecursion (Fine d counters k deep) steps
  turn_told deep before [] each small e = tt
  turn_told deep before (one ∷ steps) each small e =
      let here = lines_of_step A one (spot deep before) in
      let more = in_turn (spot deep (before + 1)) (map (lines_of_step A) steps) in
      (each.0 deep before small (holds_front here more e), turn_told deep (before + 1) steps each.1 small (holds_back here more e))

  block_told : (deep : ℕ) (steps : List Step) → AllByRecursion Told steps → holds_all (block_lines_at A deep steps) ≡ true
      → (deep ≤ 700) × FineBlock d counters k deep steps
  block_told deep steps each e =
      let turn = in_turn (spot deep 0) (map (lines_of_step A) steps) in
      let ends = end_line A deep (length (map (lines_of_step A) steps)) ∷ [] in
      let small = le_of deep 700 (first_true (nat_le deep 700) (holds_all (turn ++ ends)) e) in
      let each_fine = turn_told deep 0 steps each small (holds_front turn ends (second_true (nat_le deep 700) (holds_all (turn ++ ends)) e)) in
      (small, steps_fine d counters k deep steps small each_fine)

  expression_typed : (e : Typed) → is_expression d e ≡ true → is_typed d e ≡ true
  expression_typed e h = first_true (is_typed d e) (nat_le (depth e) 2000) h

  expression_ok : (e : Typed) → is_expression d e ≡ true → nat_le (depth e) 2000 ≡ true
  expression_ok e h = second_true (is_typed d e) (nat_le (depth e) 2000) h

  item_told : (width : ℕ) (item : StepItem) → (item_line A width item).holds ≡ true → is_item d width item ≡ true
  item_told width item e =
      let typed = is_expression d item.value in
      let wide = eqb (width_of d item.value) width in
      let small = nat_lt item.mask (2 ^ width) in
      let front = first_true (typed && wide) small e in
      both_true (is_typed d item.value && wide) small
      (both_true (is_typed d item.value) wide (expression_typed item.value (first_true typed wide front)) (second_true typed wide front))
      (second_true (typed && wide) small e)

  item_ok : (width : ℕ) (item : StepItem) → (item_line A width item).holds ≡ true → nat_le (depth item.value) 2000 ≡ true
  item_ok width item e =
      let typed = is_expression d item.value in
      let wide = eqb (width_of d item.value) width in
      expression_ok item.value (first_true typed wide (first_true (typed && wide) (nat_lt item.mask (2 ^ width)) e))

  items_told : (width : ℕ) (items : List StepItem) → holds_all (map (item_line A width) items) ≡ true → list_all (is_item d width) items ≡ true
  items_told width [] e = refl
  items_told width (item ∷ items) e =
      both_true (is_item d width item) _ (item_told width item (first_true (item_line A width item).holds _ e))
      (items_told width items (second_true (item_line A width item).holds _ e))

  items_ok : (width : ℕ) (items : List StepItem) → holds_all (map (item_line A width) items) ≡ true → ok d counters k (flat_map item_mentions items) ≡ true
  items_ok width [] e = refl
  items_ok width (item ∷ items) e =
      both_true (nat_le (depth item.value) 2000) _ (item_ok width item (first_true (item_line A width item).holds _ e))
      (items_ok width items (second_true (item_line A width item).holds _ e))

  arm_told : (width deep : ℕ) (arm : StepArm) → ArmHas Told arm → holds_all (arm_lines_at A width deep arm) ≡ true → FineArm d counters k width deep arm
  arm_told width deep arm each e =
      let rows = map (item_line A width) arm.items in
      let inner = block_lines_at A (deep + 1) arm.body in
      let e2 : holds_all (rows ++ inner) ≡ true
      = sym (ap (λ (f : ArmText). holds_all (f width deep)) (fold_out-StepArm StepText ArmText (step_lines A) (arm_lines A) arm)) ∙ e in
      let b = block_told (deep + 1) arm.body each (holds_back rows inner e2) in
      let z = fold_out-StepArm ℕ ℕ step_depth arm_depth arm in
      record {
        formed = ap (λ (f : ℕ → Bool). f width) (fold_out-StepArm Bool (ℕ → Bool) (step_formed d counters) (arm_formed d) arm)
            ∙ both_true _ _ (items_told width arm.items (holds_front rows inner e2)) b.1.formed;
        quiet = λ q. fold_out-StepArm Bool Bool step_tells arm_tells arm ∙ b.1.quiet q;
        mentions = ap (ok d counters k) (fold_out-StepArm (List Mention) (List Mention) step_mentions arm_mentions arm)
            ∙ all_join (may_mention d k) (flat_map item_mentions arm.items) (concat_all (map mentions_in arm.body))
            (items_ok width arm.items (holds_front rows inner e2)) b.1.mentions;
        blocks = omega (arith, b.1.blocks);
      }

  arms_told : (width deep : ℕ) (arms : List StepArm) → AllByRecursion (ArmHas Told) arms
      → holds_all (flat_map (λ (arm : ArmText). arm width deep) (map (lines_of_arm A) arms)) ≡ true → AllByRecursion (FineArm d counters k width deep) arms
  arms_told width deep [] each e = tt
  arms_told width deep (arm ∷ arms) each e =
      let here = arm_lines_at A width deep arm in
      let more = flat_map (λ (arm : ArmText). arm width deep) (map (lines_of_arm A) arms) in
      (arm_told width deep arm each.0 (holds_front here more e), arms_told width deep arms each.1 (holds_back here more e))

  -- ---- steps

  abbrev at_spot : Spot → StepText → Bool
  at_spot at text = holds_all (text at)

  -- what a line of one step says beside where it may stand
  own : (at : Spot) (sort : Sort) (holds : Bool) → ((may_stand k at sort && holds) && true) ≡ true → holds ≡ true
  own at sort holds e = second_true (may_stand k at sort) holds (first_true (may_stand k at sort && holds) true e)

  record Assigns (targets : List Target) (value : Typed) : Type 0 where
    pub formed : (list_all (is_target d) targets && is_typed d value && eqb (widths_named d targets) (width_of d value)) ≡ true
    pub mentions : ok d counters k (map destination targets ++ expression value ∷ []) ≡ true

  assigns : (targets : List Target) (value : Typed) → takes_value d k targets value ≡ true → Assigns targets value
  assigns targets value e =
      let writes = list_all (may_write d k) targets in
      let typed = is_expression d value in
      let wide = eqb (widths_named d targets) (width_of d value) in
      let front = first_true (writes && typed) wide e in
      let w = first_true writes typed front in
      let t = second_true writes typed front in
      record {
        formed = both_true (list_all (is_target d) targets && is_typed d value) wide
            (both_true (list_all (is_target d) targets) (is_typed d value) (targets_typed d counters k targets w) (expression_typed value t))
            (second_true (writes && typed) wide e);
        mentions = all_join (may_mention d k) (map destination targets) (expression value ∷ []) (targets_ok d counters k targets w)
            (both_true (nat_le (depth value) 2000) true (expression_ok value t) refl);
      }

  set_told : (targets : List Target) (value : Typed) → Told (step.Set targets value)
  set_told targets value deep before small e =
      let at = spot deep before in
      let e2 = sym (ap (at_spot at) (fold-Set StepText ArmText (step_lines A) (arm_lines A) targets value)) ∙ e in
      let a = assigns targets value (own at sets (takes_value d k targets value) e2) in
      let z = fold-Set ℕ ℕ step_depth arm_depth targets value in
      record {
        formed = fold-Set Bool (ℕ → Bool) (step_formed d counters) (arm_formed d) targets value ∙ a.formed;
        quiet = λ q. fold-Set Bool Bool step_tells arm_tells targets value;
        mentions = ap (ok d counters k) (fold-Set (List Mention) (List Mention) step_mentions arm_mentions targets value) ∙ a.mentions;
        blocks = omega arith;
      }

  later_told : (targets : List Target) (value : Typed) → Told (step.Later targets value)
  later_told targets value deep before small e =
      let at = spot deep before in
      let e2 = sym (ap (at_spot at) (fold-Later StepText ArmText (step_lines A) (arm_lines A) targets value)) ∙ e in
      let a = assigns targets value (own at other (takes_value d k targets value) e2) in
      let z = fold-Later ℕ ℕ step_depth arm_depth targets value in
      record {
        formed = fold-Later Bool (ℕ → Bool) (step_formed d counters) (arm_formed d) targets value ∙ a.formed;
        quiet = λ q. fold-Later Bool Bool step_tells arm_tells targets value;
        mentions = ap (ok d counters k) (fold-Later (List Mention) (List Mention) step_mentions arm_mentions targets value) ∙ a.mentions;
        blocks = omega arith;
      }

  if_told : (test : Typed) (left right : List Step) → AllByRecursion Told left → AllByRecursion Told right → Told (step.If test left right)
  if_told test left right p q deep before small e =
      let at = spot deep before in
      let first = block_lines_at A (deep + 1) left in
      let second = block_lines_at A (deep + 1) right in
      let typed = is_expression d test in
      let wide = eqb (width_of d test) 1 in
      let may = may_stand k at tests in
      let e2 : ((may && (typed && wide)) && holds_all (first ++ second)) ≡ true
      = sym (ap (at_spot at) (fold-If StepText ArmText (step_lines A) (arm_lines A) test left right)) ∙ e in
      let head = second_true may (typed && wide) (first_true (may && (typed && wide)) (holds_all (first ++ second)) e2) in
      let inner = second_true (may && (typed && wide)) (holds_all (first ++ second)) e2 in
      let l = block_told (deep + 1) left p (holds_front first second inner) in
      let r = block_told (deep + 1) right q (holds_back first second inner) in
      let z = fold-If ℕ ℕ step_depth arm_depth test left right in
      record {
        formed = fold-If Bool (ℕ → Bool) (step_formed d counters) (arm_formed d) test left right
            ∙ both_true _ _ (both_true _ _ (both_true _ _ (expression_typed test (first_true typed wide head)) (second_true typed wide head)) l.1.formed)
            r.1.formed;
        quiet = λ s. fold-If Bool Bool step_tells arm_tells test left right
            ∙ neither (any_of (map tells left)) (any_of (map tells right)) (l.1.quiet s) (r.1.quiet s);
        mentions = ap (ok d counters k) (fold-If (List Mention) (List Mention) step_mentions arm_mentions test left right)
            ∙ both_true (nat_le (depth test) 2000) _ (expression_ok test (first_true typed wide head))
            (all_join (may_mention d k) (concat_all (map mentions_in left)) (concat_all (map mentions_in right)) l.1.mentions r.1.mentions);
        blocks = omega (arith, l.1.blocks, r.1.blocks);
      }

  case_told : (on : Typed) (arms : List StepArm) (rest : List Step) → AllByRecursion (ArmHas Told) arms → AllByRecursion Told rest
      → Told (step.Case on arms rest)
  case_told on arms rest p q deep before small e =
      let at = spot deep before in
      let width = width_of d on in
      let first = flat_map (λ (arm : ArmText). arm width deep) (map (lines_of_arm A) arms) in
      let second = block_lines_at A (deep + 1) rest in
      let typed = is_expression d on in
      let may = may_stand k at other in
      let e2 : ((may && typed) && holds_all (first ++ second)) ≡ true
      = sym (ap (at_spot at) (fold-Case StepText ArmText (step_lines A) (arm_lines A) on arms rest)) ∙ e in
      let head = second_true may typed (first_true (may && typed) (holds_all (first ++ second)) e2) in
      let inner = second_true (may && typed) (holds_all (first ++ second)) e2 in
      let l = arms_fine d counters k width deep arms small (arms_told width deep arms p (holds_front first second inner)) in
      let r = block_told (deep + 1) rest q (holds_back first second inner) in
      let z = fold-Case ℕ ℕ step_depth arm_depth on arms rest in
      record {
        formed = fold-Case Bool (ℕ → Bool) (step_formed d counters) (arm_formed d) on arms rest
            ∙ both_true _ _ (both_true _ _ (expression_typed on head) l.formed) r.1.formed;
        quiet = λ s. fold-Case Bool Bool step_tells arm_tells on arms rest
            ∙ neither (any_of (map arm_tells_in arms)) (any_of (map tells rest)) (l.quiet s) (r.1.quiet s);
        mentions = ap (ok d counters k) (fold-Case (List Mention) (List Mention) step_mentions arm_mentions on arms rest)
            ∙ both_true (nat_le (depth on) 2000) _ (expression_ok on head)
            (all_join (may_mention d k) (concat_all (map arm_mentions_in arms)) (concat_all (map mentions_in rest)) l.mentions r.1.mentions);
        blocks = omega (arith, l.blocks, r.1.blocks);
      }

  show_told : (pieces : List Piece) → Told (step.Show pieces)
  show_told pieces deep before small e =
      let at = spot deep before in
      let all = list_all (is_piece d) pieces in
      let may = may_stand k at speaks in
      let e2 : ((may && all) && true) ≡ true = sym (ap (at_spot at) (fold-Show StepText ArmText (step_lines A) (arm_lines A) pieces)) ∙ e in
      let pieces_hold = own at speaks all e2 in
      let z = fold-Show ℕ ℕ step_depth arm_depth pieces in
      record {
        formed = fold-Show Bool (ℕ → Bool) (step_formed d counters) (arm_formed d) pieces ∙ pieces_typed d counters k pieces pieces_hold;
        quiet = λ q. absurd (not_spoken k at (first_true may all (first_true (may && all) true e2)) q);
        mentions = ap (ok d counters k) (fold-Show (List Mention) (List Mention) step_mentions arm_mentions pieces) ∙ pieces_ok d counters k pieces pieces_hold;
        blocks = omega arith;
      }

  finish_told : Told step.Finish
  finish_told deep before small e =
      let at = spot deep before in
      let may = may_stand k at speaks in
      let e2 : ((may && true) && true) ≡ true = sym (ap (at_spot at) (fold-Finish StepText ArmText (step_lines A) (arm_lines A))) ∙ e in
      let z = fold-Finish ℕ ℕ step_depth arm_depth in
      record {
        formed = fold-Finish Bool (ℕ → Bool) (step_formed d counters) (arm_formed d);
        quiet = λ q. absurd (not_spoken k at (first_true may true (first_true (may && true) true e2)) q);
        mentions = ap (ok d counters k) (fold-Finish (List Mention) (List Mention) step_mentions arm_mentions);
        blocks = omega arith;
      }

  stop_told : Told step.Stop
  stop_told deep before small e =
      let at = spot deep before in
      let may = may_stand k at speaks in
      let e2 : ((may && true) && true) ≡ true = sym (ap (at_spot at) (fold-Stop StepText ArmText (step_lines A) (arm_lines A))) ∙ e in
      let z = fold-Stop ℕ ℕ step_depth arm_depth in
      record {
        formed = fold-Stop Bool (ℕ → Bool) (step_formed d counters) (arm_formed d);
        quiet = λ q. absurd (not_spoken k at (first_true may true (first_true (may && true) true e2)) q);
        mentions = ap (ok d counters k) (fold-Stop (List Mention) (List Mention) step_mentions arm_mentions);
        blocks = omega arith;
      }

  count_told : (counter : ℕ) → Told (step.Count counter)
  count_told counter deep before small e =
      let at = spot deep before in
      let e2 = sym (ap (at_spot at) (fold-Count StepText ArmText (step_lines A) (arm_lines A) counter)) ∙ e in
      let z = fold-Count ℕ ℕ step_depth arm_depth counter in
      record {
        formed = fold-Count Bool (ℕ → Bool) (step_formed d counters) (arm_formed d) counter ∙ own at counts (nat_lt counter counters) e2;
        quiet = λ q. fold-Count Bool Bool step_tells arm_tells counter;
        mentions = ap (ok d counters k) (fold-Count (List Mention) (List Mention) step_mentions arm_mentions counter);
        blocks = omega arith;
      }

  -- a step whose lines hold is fine
  pub step_told : (one : Step) → Told one
  step_told = step_induction Told set_told later_told if_told case_told show_told finish_told stop_told count_told

  all_told : (steps : List Step) → AllByRecursion Told steps
  all_told [] = tt
  all_told (one ∷ steps) = (step_told one, all_told steps)

  -- a block whose lines hold is
  pub blocks_told : (deep : ℕ) (steps : List Step) → holds_all (block_lines_at A deep steps) ≡ true → (deep ≤ 700) × FineBlock d counters k deep steps
  blocks_told deep steps e = block_told deep steps (all_told steps) e
