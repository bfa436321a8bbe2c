-- Private: events on the paths of one step, and of steps one after the other.
use Rattle.std.specs.Prelude.{◌≡◌, Bool, false, ◌||◌, List, [], ◌++◌, flat_map}
use Rattle.std.specs.List.{list_any, list_all}
use Rattle.design_tree.specs.declared.step.StepArm.{StepArm}
use Rattle.design_tree.specs.declared.step.Step.{Step}
use Rattle.circuit_run.specs.States.{Bit}
use Rattle.design_meaning.specs.Spans.{Span}
use Rattle.design_meaning.specs.Targets.{names_bit}
use Rattle.design_meaning.specs.Paths.{Event, reads, sets, defers, item_reads, paths_of_step, paths}

-- such an event lies on some path of the step; of the steps
abbrev pub some_in : (Event → Bool) → Step → Bool
some_in test x = list_any (list_any test) (paths_of_step x)

abbrev pub some_in_all : (Event → Bool) → List Step → Bool
some_in_all test steps = list_any (list_any test) (paths steps)

-- such an event lies on every path of the step
abbrev pub always_in : (Event → Bool) → Step → Bool
always_in test x = list_all (list_any test) (paths_of_step x)

-- a target is written at once and names the bit; it is written later and names it
abbrev pub sets_bit : Bit → Event → Bool
sets_bit b (reads spans) = false
sets_bit b (sets target) = names_bit b target
sets_bit b (defers target) = false

abbrev pub defers_bit : Bit → Event → Bool
defers_bit b (reads spans) = false
defers_bit b (sets target) = false
defers_bit b (defers target) = names_bit b target

-- what it finds of spans together it finds of one or the other
pub record IsAdditive (test : Event → Bool) : Type 0 where
  pub none : test (reads []) ≡ false
  pub both : (xs ys : List Span) → test (reads (xs ++ ys)) ≡ (test (reads xs) || test (reads ys))

-- such an event lies on some path of an arm's block, or its items are such a read
abbrev pub arm_has : (Event → Bool) → StepArm → Bool
arm_has test arm = test (reads (flat_map item_reads arm.items)) || some_in_all test arm.body
