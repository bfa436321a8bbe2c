use Rattle.design_tree.specs.declared.step.StepItem.{StepItem}
use Rattle.cvd_text.specs.Lines.{Load}
use Rattle.cvd_step_laws.specs.LineMarks.{each_lines, each_load}
use Rattle.cvd_step_laws.specs.StepMarks.{item_lines_at}
use Rattle.cvd_targets.proofs.Lists.{Going}
use Rattle.cvd_steps.specs.Bodies.{around_of, load_of}
use Rattle.cvd_steps.proofs.Listed.{Kept}
use Rattle.cvd_steps.proofs.item.read_items.Given as goal

abbrev pub invariant-loop-left : goal.invariant-loop-left
invariant-loop-left l =
    let lines = item_lines_at (around_of l.vars l.process) l.width in
    Going StepItem Load (each_lines lines) (each_load lines) (Kept lines (load_of l.initial.sums) l.items l.sums) (load_of l.initial.sums) l.initial.cursor
    l.cursor l.turns l.left

abbrev pub decreases-loop-left : goal.decreases-loop-left
decreases-loop-left l = l.left
