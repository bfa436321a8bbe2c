-- What is known of the items and arms of a case.
use Rattle.std.proofs.Common.{List, ◌∷◌}
use Rattle.std.specs.List.{list_all}
use Rattle.design_tree.specs.declared.step.StepItem.{StepItem}
use Rattle.design_tree.specs.declared.step.StepArm.{StepArm}
use Rattle.circuit_run.specs.States.{State}
use Rattle.design_meaning.specs.WellTyped.{is_typed}
use Rattle.design_meaning.proofs.ListLaws.{left_true, right_true}
use Rattle.design_state.specs.InDesign.{IsTypedIn}
use Rattle.design_state.proofs.Typings.{with_test}
use Rattle.flat_design.specs.InDesign.{AreItemsIn, AreArmsIn, items_typed}

module _ (s : State) where
  pub first_item : (item : StepItem) (rest : List StepItem) → AreItemsIn s (item ∷ rest) → IsTypedIn s item.value
  first_item item rest h = with_test s (λ d. items_typed d (item ∷ rest)) (λ d. is_typed d item.value) h
      (λ d ok. left_true (is_typed d item.value) (items_typed d rest) ok)

  pub rest_items : (item : StepItem) (rest : List StepItem) → AreItemsIn s (item ∷ rest) → AreItemsIn s rest
  rest_items item rest h = with_test s (λ d. items_typed d (item ∷ rest)) (λ d. items_typed d rest) h
      (λ d ok. right_true (is_typed d item.value) (items_typed d rest) ok)

  pub first_arm : (arm : StepArm) (rest : List StepArm) → AreArmsIn s (arm ∷ rest) → AreItemsIn s arm.items
  first_arm arm rest h = with_test s (λ d. list_all (λ a. items_typed d a.items) (arm ∷ rest)) (λ d. items_typed d arm.items) h
      (λ d ok. left_true (items_typed d arm.items) (list_all (λ a. items_typed d a.items) rest) ok)

  pub rest_arms : (arm : StepArm) (rest : List StepArm) → AreArmsIn s (arm ∷ rest) → AreArmsIn s rest
  rest_arms arm rest h = with_test s (λ d. list_all (λ a. items_typed d a.items) (arm ∷ rest)) (λ d. list_all (λ a. items_typed d a.items) rest) h
      (λ d ok. right_true (items_typed d arm.items) (list_all (λ a. items_typed d a.items) rest) ok)
