-- A design without its counts.
use Rattle.std.specs.Prelude.{List, [], ◌∷◌, map, flat_map}
use Rattle.design_tree.specs.declared.step.Step.{Step, Step-F, fold-Step}
use Rattle.design_tree.specs.declared.step.Step.TheVariants as s
use Rattle.design_tree.specs.declared.step.Step.TheOpen as o
use Rattle.design_tree.specs.declared.step.StepArm.{StepArm}
use Rattle.design_tree.specs.declared.design.Process.{Process}
use Rattle.design_tree.specs.declared.design.Design.{Design}
use Rattle.design_meaning.specs.Steps.{step_arm}

-- the lists one after the other
abbrev pub joined : List (List Step) → List Step
joined lists = flat_map (λ steps. steps) lists

-- what is left of one step, from what is left of the steps inside it: nothing of a count
abbrev pub erased_step : Step-F (List Step) StepArm → List Step
erased_step (o.Set targets value) = s.Set targets value ∷ []
erased_step (o.Later targets value) = s.Later targets value ∷ []
erased_step (o.If test left right) = s.If test (joined left) (joined right) ∷ []
erased_step (o.Case on arms rest) = s.Case on arms (joined rest) ∷ []
erased_step (o.Show pieces) = s.Show pieces ∷ []
erased_step o.Finish = s.Finish ∷ []
erased_step o.Stop = s.Stop ∷ []
erased_step (o.Count counter) = []

-- what is left of an arm of a `case`
abbrev pub erased_arm : o.StepArm-F (List Step) StepArm → StepArm
erased_arm arm = step_arm arm.items (joined arm.body)

-- what is left of a step
abbrev pub erased : Step → List Step
erased = fold-Step (List Step) StepArm erased_step erased_arm

-- a process without its counts
abbrev pub erased_process : Process → Process
erased_process p = record p { body = flat_map erased p.body }

-- the design without its counts
abbrev pub erased_design : Design → Design
erased_design d = record d { processes = map erased_process d.processes }
