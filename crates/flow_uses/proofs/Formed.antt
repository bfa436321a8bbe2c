-- The parts of well formed steps are well typed and well formed.
use Rattle.std.proofs.Common.{◌≡◌, ◌∙◌, sym, ap, subst, refl, ℕ, ◌<◌, ◌^◌, ◌==◌, Bool, true, false, ◌&&◌, List, [], ◌∷◌, length, get_or, map}
use Rattle.std.specs.Prelude.{nat_lt}
use Rattle.std.specs.List.{list_all}
use Rattle.std.proofs.lemmas.List.Folds.{list_all_at}
use Rattle.design_tree.specs.declared.design.Design.{Design}
use Rattle.design_tree.specs.declared.typed.Typed.{Typed}
use Rattle.design_tree.specs.declared.step.Target.{Target}
use Rattle.design_tree.specs.declared.step.Piece.{Piece}
use Rattle.design_tree.specs.declared.step.Piece.TheVariants as piece
use Rattle.design_tree.specs.declared.step.StepItem.{StepItem}
use Rattle.design_tree.specs.declared.step.StepArm.{StepArm, fold-StepArm}
use Rattle.design_tree.specs.declared.step.Step.{Step}
use Rattle.design_tree.specs.declared.step.Step.TheVariants as step
use Rattle.circuit_run.specs.States.{State}
use Rattle.design_meaning.specs.Widths.{width_of, widths_named}
use Rattle.design_meaning.specs.WellTyped.{is_typed, is_target, is_piece}
use Rattle.design_meaning.specs.WellFormed.{is_step, is_item, step_formed, all_of}
use Rattle.design_meaning.specs.WellFormed as formed
use Rattle.design_meaning.proofs.StepFolds as steps
use Rattle.design_meaning.proofs.ListLaws.{left_true, right_true, all_map, and_from}
use Rattle.design_state.specs.InDesign.{InDesign, IsTypedIn}
use Rattle.design_state.proofs.Typings.{with_test}
use Rattle.flow_spans.specs.Aims.{IsTargetIn}
use Rattle.flow_uses.specs.Gathers.{AreTargetsIn, IsPieceIn, ArePiecesIn, AreItemsIn, IsStepIn, AreStepsIn, IsArmIn, AreArmsIn, arm_formed}

-- ---- one of a list

pub one_of : {X : Type 0} (f : X → Bool) (xs : List X) (i : ℕ) (d : X) → i < length xs → list_all f xs ≡ true → f (get_or xs i d) ≡ true
one_of f xs i d lt h = at (f (get_or xs i d)) refl
  where
    at : (b : Bool) → f (get_or xs i d) ≡ b → b ≡ true
    at true e = refl
    at false e = sym (list_all_at f xs i d lt e) ∙ h

module _ (s : State) where
  pub one_in : {X : Type 0} (f : Design → X → Bool) (xs : List X) (i : ℕ) (d : X) → i < length xs
      → InDesign s (λ design. list_all (f design) xs) → InDesign s (λ design. f design (get_or xs i d))
  one_in f xs i d lt h = with_test s (λ design. list_all (f design) xs) (λ design. f design (get_or xs i d)) h (λ design ok. one_of (f design) xs i d lt ok)

  pub one_target : (xs : List Target) (i : ℕ) (x : Target) → i < length xs → x ≡ get_or xs i x → AreTargetsIn s xs → IsTargetIn s x
  one_target xs i x lt k h = subst (IsTargetIn s) (sym k) (one_in is_target xs i x lt h)

  pub one_piece : (xs : List Piece) (i : ℕ) (x : Piece) → i < length xs → x ≡ get_or xs i x → ArePiecesIn s xs → IsPieceIn s x
  one_piece xs i x lt k h = subst (IsPieceIn s) (sym k) (one_in is_piece xs i x lt h)

  pub one_item : (xs : List StepItem) (i : ℕ) (x : StepItem) → i < length xs → x ≡ get_or xs i x → AreItemsIn s xs → IsTypedIn s x.value
  one_item xs i x lt k h = subst (λ (y : StepItem). IsTypedIn s y.value) (sym k) (one_in (λ d (item : StepItem). is_typed d item.value) xs i x lt h)

  pub one_step : (xs : List Step) (i : ℕ) (x : Step) → i < length xs → x ≡ get_or xs i x → AreStepsIn s xs → IsStepIn s x
  one_step xs i x lt k h = subst (IsStepIn s) (sym k) (record { counters = h.counters; formed = one_in (λ d. is_step d h.counters) xs i x lt h.formed })

  pub one_arm : (xs : List StepArm) (i : ℕ) (x : StepArm) → i < length xs → x ≡ get_or xs i x → AreArmsIn s xs → IsArmIn s x
  one_arm xs i x lt k h = subst (IsArmIn s) (sym k) (record { counters = h.counters; formed = one_in (λ d. arm_formed d h.counters) xs i x lt h.formed })

  -- ---- one step

  assigned : (d : Design) (targets : List Target) (value : Typed) → (list_all (is_target d) targets && is_typed d value && widths_named d targets ==
      width_of d value) ≡ true
      → (list_all (is_target d) targets && is_typed d value) ≡ true
  assigned d targets value ok = left_true (list_all (is_target d) targets && is_typed d value) (widths_named d targets == width_of d value) ok

  pub set_targets : (targets : List Target) (value : Typed) → IsStepIn s (step.Set targets value) → AreTargetsIn s targets
  set_targets targets value h = with_test s (λ d. is_step d h.counters (step.Set targets value)) (λ d. list_all (is_target d) targets) h.formed
      (λ d ok. left_true (list_all (is_target d) targets) (is_typed d value) (assigned d targets value (sym (steps.fold-Set Bool (ℕ → Bool) (step_formed d
      h.counters) (formed.arm_formed d) targets value) ∙ ok)))

  pub set_value : (targets : List Target) (value : Typed) → IsStepIn s (step.Set targets value) → IsTypedIn s value
  set_value targets value h = with_test s (λ d. is_step d h.counters (step.Set targets value)) (λ d. is_typed d value) h.formed
      (λ d ok. right_true (list_all (is_target d) targets) (is_typed d value) (assigned d targets value (sym (steps.fold-Set Bool (ℕ → Bool) (step_formed d
      h.counters) (formed.arm_formed d) targets value) ∙ ok)))

  pub later_targets : (targets : List Target) (value : Typed) → IsStepIn s (step.Later targets value) → AreTargetsIn s targets
  later_targets targets value h = with_test s (λ d. is_step d h.counters (step.Later targets value)) (λ d. list_all (is_target d) targets) h.formed
      (λ d ok. left_true (list_all (is_target d) targets) (is_typed d value) (assigned d targets value (sym (steps.fold-Later Bool (ℕ → Bool) (step_formed
      d h.counters) (formed.arm_formed d) targets value) ∙ ok)))

  pub later_value : (targets : List Target) (value : Typed) → IsStepIn s (step.Later targets value) → IsTypedIn s value
  later_value targets value h = with_test s (λ d. is_step d h.counters (step.Later targets value)) (λ d. is_typed d value) h.formed
      (λ d ok. right_true (list_all (is_target d) targets) (is_typed d value) (assigned d targets value (sym (steps.fold-Later Bool (ℕ → Bool) (step_formed
      d h.counters) (formed.arm_formed d) targets value) ∙ ok)))

  pub show_pieces : (pieces : List Piece) → IsStepIn s (step.Show pieces) → ArePiecesIn s pieces
  show_pieces pieces h = with_test s (λ d. is_step d h.counters (step.Show pieces)) (λ d. list_all (is_piece d) pieces) h.formed
      (λ d ok. sym (steps.fold-Show Bool (ℕ → Bool) (step_formed d h.counters) (formed.arm_formed d) pieces) ∙ ok)

  -- a block, from the tests of its steps
  block : (d : Design) (k : ℕ) (xs : List Step) → all_of (map (is_step d k) xs) ≡ true → list_all (is_step d k) xs ≡ true
  block d k xs h = sym (all_map (λ test. test) (is_step d k) xs) ∙ h

  if_parts : (d : Design) (k : ℕ) (test : Typed) (left right : List Step) → is_step d k (step.If test left right) ≡ true
      → (is_typed d test && width_of d test == 1 && all_of (map (is_step d k) left) && all_of (map (is_step d k) right)) ≡ true
  if_parts d k test left right ok = sym (steps.fold-If Bool (ℕ → Bool) (step_formed d k) (formed.arm_formed d) test left right) ∙ ok

  pub if_test : (test : Typed) (left right : List Step) → IsStepIn s (step.If test left right) → IsTypedIn s test
  if_test test left right h = with_test s (λ d. is_step d h.counters (step.If test left right)) (λ d. is_typed d test) h.formed
      (λ d ok. left_true (is_typed d test) (width_of d test == 1) (left_true (is_typed d test && width_of d test == 1) (all_of (map (is_step d h.counters)
      left))
      (left_true (is_typed d test && width_of d test == 1 && all_of (map (is_step d h.counters) left)) (all_of (map (is_step d h.counters) right))
      (if_parts d h.counters test left right ok))))

  pub if_left : (test : Typed) (left right : List Step) → IsStepIn s (step.If test left right) → AreStepsIn s left
  if_left test left right h = record {
    counters = h.counters;
    formed = with_test s (λ d. is_step d h.counters (step.If test left right)) (λ d. list_all (is_step d h.counters) left) h.formed
        (λ d ok. block d h.counters left (right_true (is_typed d test && width_of d test == 1) (all_of (map (is_step d h.counters) left))
        (left_true (is_typed d test && width_of d test == 1 && all_of (map (is_step d h.counters) left)) (all_of (map (is_step d h.counters) right))
        (if_parts d h.counters test left right ok))));
  }

  pub if_right : (test : Typed) (left right : List Step) → IsStepIn s (step.If test left right) → AreStepsIn s right
  if_right test left right h = record {
    counters = h.counters;
    formed = with_test s (λ d. is_step d h.counters (step.If test left right)) (λ d. list_all (is_step d h.counters) right) h.formed
        (λ d ok. block d h.counters right (right_true (is_typed d test && width_of d test == 1 && all_of (map (is_step d h.counters) left)) (all_of (map
        (is_step d h.counters) right))
        (if_parts d h.counters test left right ok)));
  }

  -- ---- cases

  items_typed : (d : Design) (w : ℕ) (items : List StepItem) → list_all (is_item d w) items ≡ true → list_all (λ item. is_typed d item.value) items ≡ true
  items_typed d w [] h = refl
  items_typed d w (x ∷ xs) h =
      and_from (is_typed d x.value) (list_all (λ item. is_typed d item.value) xs)
      (left_true (is_typed d x.value) (width_of d x.value == w) (left_true (is_typed d x.value && width_of d x.value == w) (nat_lt x.mask (2 ^ w))
      (left_true (is_item d w x) (list_all (is_item d w) xs) h)))
      (items_typed d w xs (right_true (is_item d w x) (list_all (is_item d w) xs) h))

  arm_test : Design → ℕ → StepArm → ℕ → Bool
  arm_test d k = fold-StepArm Bool (ℕ → Bool) (step_formed d k) (formed.arm_formed d)

  one_arm_formed : (d : Design) (k w : ℕ) (arm : StepArm) → arm_test d k arm w ≡ true → arm_formed d k arm ≡ true
  unfolding arm_test
  one_arm_formed d k w arm h =
      let ok : (list_all (is_item d w) arm.items && all_of (map (is_step d k) arm.body)) ≡ true =
      sym (ap (λ f. f w) (steps.fold-arm Bool (ℕ → Bool) (step_formed d k) (formed.arm_formed d) arm.items arm.body)) ∙ h in
      and_from (list_all (λ item. is_typed d item.value) arm.items) (list_all (is_step d k) arm.body)
      (items_typed d w arm.items (left_true (list_all (is_item d w) arm.items) (all_of (map (is_step d k) arm.body)) ok))
      (block d k arm.body (right_true (list_all (is_item d w) arm.items) (all_of (map (is_step d k) arm.body)) ok))

  arms_formed : (d : Design) (k w : ℕ) (arms : List StepArm) → list_all (λ arm. arm w) (map (arm_test d k) arms) ≡ true → list_all (arm_formed d k) arms ≡ true
  arms_formed d k w [] h = refl
  arms_formed d k w (arm ∷ arms) h =
      and_from (arm_formed d k arm) (list_all (arm_formed d k) arms)
      (one_arm_formed d k w arm (left_true (arm_test d k arm w) (list_all (λ arm. arm w) (map (arm_test d k) arms)) h))
      (arms_formed d k w arms (right_true (arm_test d k arm w) (list_all (λ arm. arm w) (map (arm_test d k) arms)) h))

  case_parts : (d : Design) (k : ℕ) (on : Typed) (arms : List StepArm) (rest : List Step) → is_step d k (step.Case on arms rest) ≡ true
      → (is_typed d on && list_all (λ arm. arm (width_of d on)) (map (arm_test d k) arms) && all_of (map (is_step d k) rest)) ≡ true
  unfolding arm_test
  case_parts d k on arms rest ok = sym (steps.fold-Case Bool (ℕ → Bool) (step_formed d k) (formed.arm_formed d) on arms rest) ∙ ok

  pub case_on : (on : Typed) (arms : List StepArm) (rest : List Step) → IsStepIn s (step.Case on arms rest) → IsTypedIn s on
  case_on on arms rest h = with_test s (λ d. is_step d h.counters (step.Case on arms rest)) (λ d. is_typed d on) h.formed
      (λ d ok. left_true (is_typed d on) (list_all (λ arm. arm (width_of d on)) (map (arm_test d h.counters) arms))
      (left_true (is_typed d on && list_all (λ arm. arm (width_of d on)) (map (arm_test d h.counters) arms)) (all_of (map (is_step d h.counters) rest))
      (case_parts d h.counters on arms rest ok)))

  pub case_arms : (on : Typed) (arms : List StepArm) (rest : List Step) → IsStepIn s (step.Case on arms rest) → AreArmsIn s arms
  case_arms on arms rest h = record {
    counters = h.counters;
    formed = with_test s (λ d. is_step d h.counters (step.Case on arms rest)) (λ d. list_all (arm_formed d h.counters) arms) h.formed
        (λ d ok. arms_formed d h.counters (width_of d on) arms (right_true (is_typed d on) (list_all (λ arm. arm (width_of d on)) (map (arm_test d
        h.counters) arms))
        (left_true (is_typed d on && list_all (λ arm. arm (width_of d on)) (map (arm_test d h.counters) arms)) (all_of (map (is_step d h.counters) rest))
        (case_parts d h.counters on arms rest ok))));
  }

  pub case_rest : (on : Typed) (arms : List StepArm) (rest : List Step) → IsStepIn s (step.Case on arms rest) → AreStepsIn s rest
  case_rest on arms rest h = record {
    counters = h.counters;
    formed = with_test s (λ d. is_step d h.counters (step.Case on arms rest)) (λ d. list_all (is_step d h.counters) rest) h.formed
        (λ d ok. block d h.counters rest (right_true (is_typed d on && list_all (λ arm. arm (width_of d on)) (map (arm_test d h.counters) arms)) (all_of
        (map (is_step d h.counters) rest))
        (case_parts d h.counters on arms rest ok)));
  }

  pub arm_items : (arm : StepArm) → IsArmIn s arm → AreItemsIn s arm.items
  arm_items arm h = with_test s (λ d. arm_formed d h.counters arm) (λ d. list_all (λ item. is_typed d item.value) arm.items) h.formed
      (λ d ok. left_true (list_all (λ item. is_typed d item.value) arm.items) (list_all (is_step d h.counters) arm.body) ok)

  pub arm_body : (arm : StepArm) → IsArmIn s arm → AreStepsIn s arm.body
  arm_body arm h = record {
    counters = h.counters;
    formed = with_test s (λ d. arm_formed d h.counters arm) (λ d. list_all (is_step d h.counters) arm.body) h.formed
        (λ d ok. right_true (list_all (λ item. is_typed d item.value) arm.items) (list_all (is_step d h.counters) arm.body) ok);
  }
