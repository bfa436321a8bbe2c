-- Some item and some arm, for what is wrong before the others.
use Rattle.std.proofs.Common.{ℕ, ◌≤◌, [], length, ap, arith}
use Rattle.design_tree.specs.declared.step.StepArm.{StepArm, roll-StepArm}
use Rattle.design_tree.specs.declared.step.StepItem.{StepItem}
use Rattle.design_tree.specs.declared.typed.Typed.TheVariants as e
use Rattle.cvd_text.specs.Lines.{Load}
use Rattle.cvd_text.specs.Steps.{Around}
use Rattle.cvd_step_laws.specs.StepMarks.{item_marks, arm_marks}
use Rattle.cvd_step_laws.proofs.StepParts.{arm_alike}

pub some_item : StepItem
some_item = record { mask = 0; value = e.Var 0 }

pub some_arm : StepArm
some_arm = roll-StepArm (record { items = []; body = [] })

-- each takes a piece at least
pub item_long : (around : Around) (width : ℕ) (before : Load) (item : StepItem) → 1 ≤ length (item_marks around width before item)
item_long around width before item = omega arith

pub arm_long : (around : Around) (width deep : ℕ) (before : Load) (arm : StepArm) → 1 ≤ length (arm_marks around width deep before arm)
arm_long around width deep before arm = let whole = ap length (arm_alike around width deep before arm) in omega arith
