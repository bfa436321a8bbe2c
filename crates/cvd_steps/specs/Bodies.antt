-- The steps of processes as they are read: what is held of each, and what the lines up to there add up to.
use Rattle.std.specs.Prelude.{◌≡◌, ℕ, true, List}
use Rattle.cov_types.specs.declared.var.Var.{Var}
use Rattle.design_tree.specs.declared.step.Piece.{Piece}
use Rattle.design_tree.specs.declared.step.Step.{Step}
use Rattle.design_tree.specs.declared.step.StepArm.{StepArm}
use Rattle.design_tree.specs.declared.step.StepItem.{StepItem}
use Rattle.design_tree.specs.declared.step.Target.{Target}
use Rattle.design_tree.specs.declared.typed.Typed.{Typed}
use Rattle.design_meaning.specs.Widths.{width_of}
use Rattle.cvd_text.specs.Lines.{Load, added, is_within}
use Rattle.cvd_text.specs.Pieces.{Mark, marks_of}
use Rattle.cvd_text.specs.Steps.{Around, Spot, lines_of_step, body_lines, assigning, Sort}
use Rattle.cvd_step_laws.specs.LineMarks.{load_behind, with_vars}
use Rattle.cvd_step_laws.specs.StepMarks.{block_lines_at, arm_lines_at, item_lines_at, if_line, case_line, show_line, count_line}
use Rattle.cvd_targets.specs.Lists.{AreTurns}
use Rattle.cvd_steps.specs.declared.sums.Sums.{Sums}
use Rattle.cvd_steps.specs.declared.process.Process.{Process}
use Rattle.cvd_steps.specs.declared.kept.Body.{Body}
use Rattle.cvd_steps.specs.declared.kept.ReadStep.{ReadStep}
use Rattle.cvd_steps.specs.declared.kept.Arms.{Arms}
use Rattle.cvd_steps.specs.declared.kept.ReadArm.{ReadArm}
use Rattle.cvd_steps.specs.declared.item.Items.{Items}
use Rattle.cvd_steps.specs.declared.item.ReadItem.{ReadItem}
use Rattle.cvd_steps.specs.declared.line.AssignedLine.{AssignedLine}
use Rattle.cvd_steps.specs.declared.line.TestLine.{TestLine}
use Rattle.cvd_steps.specs.declared.line.CaseLine.{CaseLine}
use Rattle.cvd_steps.specs.declared.line.ShowLine.{ShowLine}
use Rattle.cvd_steps.specs.declared.line.CountLine.{CountLine}

abbrev pub load_of : Sums → Load
load_of s = record { bits = s.bits; steps = s.steps; nodes = s.nodes; shown = s.shown }

-- what the steps of a process are read in
abbrev pub around_of : List Var → Process → Around
around_of vars p = record { design = with_vars vars; counters = p.counters; kind = p.kind }

-- sums that are these, within the limits
pub record AreSums (load : Load) (s : Sums) : Type 0 where
  pub load_is : load_of s ≡ load
  pub within : is_within load ≡ true

-- what a line with one step or none adds
abbrev pub own_load : ℕ → ℕ → ℕ → Load
own_load steps nodes shown = record { bits = 0; steps = steps; nodes = nodes; shown = shown }

-- ---- the block of a process

abbrev pub body_marks : Around → Load → List Step → List Mark
body_marks around before steps = marks_of before (body_lines around steps)

pub record IsBody (around : Around) (before : Load) (deep : ℕ) (steps : List Step) (x : Body) : Type 0 where
  pub steps_are : x.steps ≡ steps
  pub sums_are : AreSums (load_behind before (block_lines_at around deep steps)) x.sums

pub record IsStep (around : Around) (before : Load) (at : Spot) (one : Step) (x : ReadStep) : Type 0 where
  pub step_is : x.step ≡ one
  pub sums_are : AreSums (load_behind before (lines_of_step around one at)) x.sums

pub record IsArm (around : Around) (width deep : ℕ) (before : Load) (arm : StepArm) (x : ReadArm) : Type 0 where
  pub arm_is : x.arm ≡ arm
  pub sums_are : AreSums (load_behind before (arm_lines_at around width deep arm)) x.sums

pub record AreArms (load : Load) (arms : List StepArm) (x : Arms) : Type 0 where
  pub arms_are : x.arms ≡ arms
  pub sums_are : AreSums load x.sums

pub record IsItem (around : Around) (width : ℕ) (before : Load) (item : StepItem) (x : ReadItem) : Type 0 where
  pub item_is : x.item ≡ item
  pub sums_are : AreSums (load_behind before (item_lines_at around width item)) x.sums

pub record AreItems (load : Load) (items : List StepItem) (x : Items) : Type 0 where
  pub items_are : x.items ≡ items
  pub sums_are : AreSums load x.sums

-- ---- first lines

pub record IsAssignedLine (around : Around) (before : Load) (at : Spot) (sort : Sort) (name : List ℕ) (targets : List Target) (value : Typed)
    (x : AssignedLine) : Type 0 where
  pub targets_are : x.targets ≡ targets
  pub value_is : x.value ≡ value
  pub sums_are : AreSums (added before (assigning around at sort name targets value).load) x.sums

pub record IsTestLine (around : Around) (before : Load) (at : Spot) (test : Typed) (x : TestLine) : Type 0 where
  pub test_is : x.test ≡ test
  pub sums_are : AreSums (added before (if_line around at test).load) x.sums

pub record IsCaseLine (around : Around) (before : Load) (at : Spot) (n : ℕ) (on : Typed) (bytes : ℕ) (x : CaseLine) : Type 0 where
  pub on_is : x.on ≡ on
  pub width_is : x.width ≡ width_of around.design on
  pub turns_are : AreTurns bytes n x.turns
  pub sums_are : AreSums (added before (case_line around at n on).load) x.sums

pub record IsShowLine (around : Around) (before : Load) (at : Spot) (pieces : List Piece) (x : ShowLine) : Type 0 where
  pub pieces_are : x.pieces ≡ pieces
  pub sums_are : AreSums (added before (show_line around at pieces).load) x.sums

pub record IsCountLine (around : Around) (before : Load) (at : Spot) (counter : ℕ) (x : CountLine) : Type 0 where
  pub counter_is : x.counter ≡ counter
  pub sums_are : AreSums (added before (count_line around at counter).load) x.sums
