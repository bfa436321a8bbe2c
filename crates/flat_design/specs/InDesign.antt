-- What is asked of the steps and targets that are run from a state.
use Rattle.std.specs.Prelude.{ℕ, Bool, List, flat_map, IsTrue, All}
use Rattle.std.specs.List.{list_all}
use Rattle.design_tree.specs.declared.design.Design.{Design}
use Rattle.design_tree.specs.declared.step.Target.{Target}
use Rattle.design_tree.specs.declared.step.StepItem.{StepItem}
use Rattle.design_tree.specs.declared.step.StepArm.{StepArm}
use Rattle.design_tree.specs.declared.step.Step.{Step, fold-Step}
use Rattle.circuit_run.specs.States.{State}
use Rattle.design_meaning.specs.States.{IsStateOf}
use Rattle.design_meaning.specs.WellTyped.{is_typed, is_target}
use Rattle.design_meaning.specs.WellFormed.{is_step}
use Rattle.design_meaning.specs.ValidVariables.{IsVariable}
use Rattle.design_meaning.specs.Mentions.{Mention, step_mentions, arm_mentions}
use Rattle.design_state.specs.InDesign.{InDesign}
use Rattle.flat_design.specs.Effects.{Effects, HasRoom, room_for}

abbrev pub IsTargetIn : State → Target → Type 0
IsTargetIn s t = InDesign s (λ d. is_target d t)

abbrev pub AreTargetsIn : State → List Target → Type 0
AreTargetsIn s ts = InDesign s (λ d. list_all (is_target d) ts)

abbrev pub items_typed : Design → List StepItem → Bool
items_typed d items = list_all (λ item. is_typed d item.value) items

abbrev pub AreItemsIn : State → List StepItem → Type 0
AreItemsIn s items = InDesign s (λ d. items_typed d items)

abbrev pub AreArmsIn : State → List StepArm → Type 0
AreArmsIn s arms = InDesign s (λ d. list_all (λ arm. items_typed d arm.items) arms)

-- what a step mentions, the steps inside it included
abbrev pub mentions_in : Step → List Mention
mentions_in = fold-Step (List Mention) (List Mention) step_mentions arm_mentions

-- steps may be run from a state with these effects: they are steps of a design that the state is of, and there is room
pub record CanRun (s : State) (e : Effects) (steps : List Step) : Type 0 where
  pub design : Design
  pub counters : ℕ
  pub of : IsStateOf design s
  pub variables : All IsVariable design.vars
  pub formed : IsTrue (list_all (is_step design counters) steps)
  pub room : HasRoom e (room_for design (flat_map mentions_in steps))
