-- What is asked of steps whose needs of room are counted.
use Rattle.std.specs.Prelude.{ℕ, ◌<◌, ◌&&◌, Bool, List, length, slice_index_or}
use Rattle.std.specs.List.{list_all}
use Rattle.design_tree.specs.declared.design.Design.{Design}
use Rattle.design_tree.specs.declared.step.Step.{Step}
use Rattle.design_tree.specs.declared.step.StepArm.{StepArm, fold-StepArm}
use Rattle.circuit_run.specs.States.{State}
use Rattle.design_meaning.specs.Mentions.{Mention, step_mentions, arm_mentions}
use Rattle.design_meaning.specs.WellFormed.{is_step, is_item}
use Rattle.flat_design.specs.Effects.{Room, Effects}
use Rattle.flat_design.specs.InDesign.{CanRun}
use Rattle.flat_design.specs.declared.needs.Needs.{Needs}

abbrev pub room_seen : Needs → Room
room_seen n = record { updates = n.updates; bytes = n.bytes; counters = n.counters }

-- with some room steps can be run
abbrev pub StepsIn : State → List Step → Type 0
StepsIn s steps = (e : Effects) × CanRun s e steps

-- and so can the body of each arm
abbrev pub ArmsIn : State → List StepArm → Type 0
ArmsIn s arms = (i : ℕ) (none : StepArm) → i < length arms → StepsIn s (slice_index_or arms i none).body

-- what an arm mentions
abbrev pub arm_mentions_in : StepArm → List Mention
arm_mentions_in = fold-StepArm (List Mention) (List Mention) step_mentions arm_mentions

-- an arm of a case of so many bits is well formed
abbrev pub arm_at : Design → ℕ → ℕ → StepArm → Bool
arm_at d k w arm = list_all (is_item d w) arm.items && list_all (is_step d k) arm.body
