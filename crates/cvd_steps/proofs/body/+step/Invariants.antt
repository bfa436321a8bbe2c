use Rattle.std.proofs.Common.{◌+◌, ◌-◌, ◌*◌, length}
use Rattle.design_tree.specs.declared.step.StepArm.{StepArm}
use Rattle.cvd_text.specs.Lines.{Load}
use Rattle.cvd_cursor.specs.Reads.{Takes}
use Rattle.cvd_step_laws.specs.LineMarks.{each_lines, each_load}
use Rattle.cvd_step_laws.specs.StepMarks.{within, arm_lines_at}
use Rattle.cvd_step_laws.proofs.BlockReads.{turn, there}
use Rattle.cvd_targets.proofs.Lists.{Going}
use Rattle.cvd_steps.specs.Bodies.{AreSums, around_of, load_of}
use Rattle.cvd_steps.proofs.Listed.{Kept}
use Rattle.cvd_steps.proofs.body.+step.Given as goal

abbrev pub invariant-all_steps-turns : goal.invariant-all_steps-turns
invariant-all_steps-turns l = record {
  takes : Takes (turn (around_of l.vars l.process) l.deep (within (load_of l.initial.sums) 0)) l.initial.cursor l.cursor l.steps;
  sums_are : AreSums (there (around_of l.vars l.process) l.deep (within (load_of l.initial.sums) 0) l.steps).load l.sums;
}

abbrev pub decreases-all_steps-turns : goal.decreases-all_steps-turns
decreases-all_steps-turns l = length l.cursor.rest

abbrev pub invariant-all_arms-loop-left : goal.invariant-all_arms-loop-left
invariant-all_arms-loop-left l =
    let lines = arm_lines_at (around_of l.vars l.process) l.each.width l.each.deep in
    Going StepArm Load (each_lines lines) (each_load lines) (Kept lines (load_of l.initial.sums) l.arms l.sums) (load_of l.initial.sums) l.initial.cursor
    l.cursor l.each.turns l.left

abbrev pub decreases-all_arms-loop-left : goal.decreases-all_arms-loop-left
decreases-all_arms-loop-left l = l.left

abbrev pub decreases-block : goal.decreases-block
decreases-block l = 10 * (701 - l.deep) + 9

abbrev pub decreases-all_steps : goal.decreases-all_steps
decreases-all_steps l = 10 * (701 - l.deep) + 8

abbrev pub decreases-step : goal.decreases-step
decreases-step l = 10 * (701 - l.place.deep) + 7

abbrev pub decreases-parts : goal.decreases-parts
decreases-parts l = 10 * (701 - l.place.deep) + 6

abbrev pub decreases-tested : goal.decreases-tested
decreases-tested l = 10 * (701 - l.place.deep) + 5

abbrev pub decreases-chosen : goal.decreases-chosen
decreases-chosen l = 10 * (701 - l.place.deep) + 5

abbrev pub decreases-all_arms : goal.decreases-all_arms
decreases-all_arms l = 10 * (701 - l.each.deep) + 4

abbrev pub decreases-arm : goal.decreases-arm
decreases-arm l = 10 * (701 - l.each.deep) + 3
