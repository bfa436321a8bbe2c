-- Runs of steps that tell the numbers of the arms that they enter, in order (this project's own).
use Rattle.std.specs.Prelude.{ℕ, ◌+◌, ◌==◌, if◌then◌else◌, List, [], ◌∷◌, ◌++◌, map}
use Rattle.std.specs.List.{list_any}
use Rattle.design_tree.specs.declared.step.StepItem.{StepItem}
use Rattle.design_tree.specs.declared.step.StepArm.{StepArm, fold-StepArm}
use Rattle.design_tree.specs.declared.step.Step.{Step, Step-F, fold-Step}
use Rattle.design_tree.specs.declared.step.Step.TheOpen as o
use Rattle.circuit_run.specs.States.{State}
use Rattle.design_meaning.specs.Values.{value_in}
use Rattle.circuit_run.specs.Lists.{total}
use Rattle.circuit_run.specs.Outcomes.{Outcome, unchanged, joined, Act, notes}
use Rattle.design_meaning.specs.Steps.{step_does, is_match}

-- an `if`: the numbers of the arm around it and of its two arms
pub record Fork : Type 0 where
  pub around : ℕ
  pub yes_arm : ℕ
  pub no_arm : ℕ

-- How many arms a step has; what it does where the first of them has a given number; and each `if` of it, given the
-- numbers of the arm around the step and of its first arm.
pub record Telling : Type 0 where
  pub arms : ℕ
  pub act : ℕ → Act ℕ
  pub forks : ℕ → ℕ → List Fork

-- the same of an arm of a `case`
pub record TellingArm : Type 0 where
  pub items : List StepItem
  pub body : List Telling

-- how many arms some steps have
abbrev pub arms_of : List Telling → ℕ
arms_of steps = total (map (λ a. a.arms) steps)

-- an arm is entered
abbrev pub enters : ℕ → Act ℕ
enters n = notes n

-- steps one after the other, whose arms are numbered from n
abbrev pub tell_in_turn : List Telling → ℕ → Act ℕ
tell_in_turn [] n from = unchanged from
tell_in_turn (a ∷ steps) n from = joined (a.act n from) (tell_in_turn steps (n + a.arms) (a.act n from).state)

-- each `if` of them
abbrev pub forks_in_turn : List Telling → ℕ → ℕ → List Fork
forks_in_turn [] around n = []
forks_in_turn (a ∷ steps) around n = a.forks around n ++ forks_in_turn steps around (n + a.arms)

-- each `if` in the arm with the number n
abbrev pub forks_of_arm : List Telling → ℕ → List Fork
forks_of_arm steps n = forks_in_turn steps n (n + 1)

-- the arm with the number n: it is entered, and its steps have the numbers after it
abbrev pub tell_arm : List Telling → ℕ → Act ℕ
tell_arm steps n from = joined (enters n from) (tell_in_turn steps (n + 1) from)

-- the first arm with an item that matches, else the block for no match
abbrev pub tell_choice : State → ℕ → List TellingArm → List Telling → ℕ → Outcome ℕ
tell_choice from n [] rest k = tell_arm rest k from
tell_choice from n (arm ∷ arms) rest k =
    if list_any (is_match from n) arm.items then tell_arm arm.body k from else tell_choice from n arms rest (k + 1 + arms_of arm.body)

-- how many arms some arms of a `case` have, with those inside
abbrev pub arms_of_arms : List TellingArm → ℕ
arms_of_arms arms = total (map (λ arm. 1 + arms_of arm.body) arms)

-- each `if` in them and in the block for no match
abbrev pub forks_of_arms : List TellingArm → List Telling → ℕ → List Fork
forks_of_arms [] rest n = forks_of_arm rest n
forks_of_arms (arm ∷ arms) rest n = forks_of_arm arm.body n ++ forks_of_arms arms rest (n + 1 + arms_of arm.body)

-- a step without arms
abbrev pub without_arms : Act ℕ → Telling
without_arms act = record { arms = 0; act = λ n. act; forks = λ around n. [] }

-- one step, from what the steps inside it tell; counts tell nothing
abbrev pub step_tells : Step-F Telling TellingArm → Telling
step_tells (o.Set targets value) = without_arms (step_does (o.Set targets value))
step_tells (o.Later targets value) = without_arms (step_does (o.Later targets value))
step_tells (o.If test left right) = record {
  arms = 2 + arms_of left + arms_of right;
  act = λ n from. if (value_in from test).number == 0 then tell_arm right (n + 1 + arms_of left) from else tell_arm left n from;
  forks = λ around n.
      record { around = around; yes_arm = n; no_arm = n + 1 + arms_of left }
      ∷ forks_of_arm left n ++ forks_of_arm right (n + 1 + arms_of left);
}
step_tells (o.Case on arms rest) = record {
  arms = 1 + arms_of_arms arms + arms_of rest;
  act = λ n from. tell_choice from (value_in from on).number arms rest n;
  forks = λ around n. forks_of_arms arms rest n;
}
step_tells (o.Show pieces) = without_arms (step_does (o.Show pieces))
step_tells o.Finish = without_arms (step_does o.Finish)
step_tells o.Stop = without_arms (step_does o.Stop)
step_tells (o.Count counter) = without_arms unchanged

-- an arm of a `case`, from what its steps tell
abbrev pub arm_tells : o.StepArm-F Telling TellingArm → TellingArm
arm_tells arm = record { items = arm.items; body = arm.body }

-- what a step tells
abbrev pub tells : Step → Telling
tells = fold-Step Telling TellingArm step_tells arm_tells

-- what an arm of a `case` tells
abbrev pub arm_telling : StepArm → TellingArm
arm_telling = fold-StepArm Telling TellingArm step_tells arm_tells

-- what steps do whose arms are numbered from n, each entered arm told by its number
abbrev pub all_tell : List Step → ℕ → Act ℕ
all_tell steps = tell_in_turn (map tells steps)
