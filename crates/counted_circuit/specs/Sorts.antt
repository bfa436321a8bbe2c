-- The arms of a design in the order of their numbers, by what they are.
use Rattle.std.specs.Prelude.{Bool, true, false, List, [], ◌∷◌, ◌++◌, flat_map}
use Rattle.design_tree.specs.declared.step.Step.{Step, Step-F, fold-Step}
use Rattle.design_tree.specs.declared.step.Step.TheOpen as o
use Rattle.cov_types.specs.declared.kind.ProcessKind.{ProcessKind}
use Rattle.cov_types.specs.declared.kind.ProcessKind.TheVariants as kind
use Rattle.design_tree.specs.declared.design.Design.{Design}

-- the body of a process or of an assignment, a cover, an arm of an `if`, an arm of a `case` with items, or the block for
-- no match, which has steps or none
pub data Sort : Type 0 where
  body : Sort
  assignment : Sort
  cover : Sort
  yes_arm : Sort
  no_arm : Sort
  listed : Sort
  no_match : Bool → Sort

-- some steps stand there
abbrev pub has_steps : List (List Sort) → Bool
has_steps [] = false
has_steps (steps ∷ more) = true

-- those of steps one after the other
abbrev pub in_turn : List (List Sort) → List Sort
in_turn lists = flat_map (λ sorts. sorts) lists

-- the arms of one step, from those of the steps inside it: each arm and then what is in it
abbrev pub step_sorts : Step-F (List Sort) (List Sort) → List Sort
step_sorts (o.If test left right) = yes_arm ∷ in_turn left ++ no_arm ∷ in_turn right
step_sorts (o.Case on arms rest) = in_turn arms ++ no_match (has_steps rest) ∷ in_turn rest
step_sorts _ = []

-- those of an arm of a `case`
abbrev pub arm_sorts : o.StepArm-F (List Sort) (List Sort) → List Sort
arm_sorts arm = listed ∷ in_turn arm.body

-- those of a step
abbrev pub sorts : Step → List Sort
sorts = fold-Step (List Sort) (List Sort) step_sorts arm_sorts

-- those of a process
abbrev pub process_sorts : ProcessKind → List Step → List Sort
process_sorts kind.Assign steps = assignment ∷ []
process_sorts kind.Cover steps = cover ∷ []
process_sorts _ steps = body ∷ flat_map sorts steps

-- the arms of a design; its arms are as many as these
abbrev pub arms_in : Design → List Sort
arms_in d = flat_map (λ p. process_sorts p.kind p.body) d.processes
