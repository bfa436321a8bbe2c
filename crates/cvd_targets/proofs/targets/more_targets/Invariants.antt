use Rattle.design_tree.specs.declared.step.Target.{Target}
use Rattle.cvd_text.specs.Targets.{target_tokens}
use Rattle.cvd_step_laws.specs.LineMarks.{each_tokens, unchanged, with_vars}
use Rattle.cvd_targets.specs.TargetParts.{SoFar}
use Rattle.cvd_targets.proofs.Lists.{Going}
use Rattle.cvd_targets.proofs.targets.more_targets.Given as goal

abbrev pub invariant-loop-left : goal.invariant-loop-left
invariant-loop-left l =
    Going Target (Unit {0}) (each_tokens target_tokens) unchanged (λ xs. SoFar (with_vars l.vars) l.kind xs l.whole l.kept) tt l.initial.cursor l.cursor
    l.turns l.left

abbrev pub decreases-loop-left : goal.decreases-loop-left
decreases-loop-left l = l.left
