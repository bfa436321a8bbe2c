-- What is left of an arm of a `case` without its counts.
use Rattle.std.specs.Prelude.{List}
use Rattle.design_tree.specs.declared.step.Step.{Step}
use Rattle.design_tree.specs.declared.step.StepArm.{StepArm, fold-StepArm}
use Rattle.counted_circuit.specs.Erased.{erased_step, erased_arm}

-- the arm with what is left of its block
abbrev pub arm_without_counts : StepArm → StepArm
arm_without_counts = fold-StepArm (List Step) StepArm erased_step erased_arm
