use Rattle.design_tree.specs.declared.step.Piece.{Piece}
use Rattle.cvd_text.specs.Targets.{piece_tokens}
use Rattle.cvd_step_laws.specs.LineMarks.{each_tokens, unchanged, with_vars}
use Rattle.cvd_targets.specs.PieceParts.{SoFar}
use Rattle.cvd_targets.proofs.Lists.{Going}
use Rattle.cvd_targets.proofs.pieces.more_pieces.Given as goal

abbrev pub invariant-loop-left : goal.invariant-loop-left
invariant-loop-left l =
    Going Piece (Unit {0}) (each_tokens piece_tokens) unchanged (λ xs. SoFar (with_vars l.vars) xs l.whole l.kept) tt l.initial.cursor l.cursor l.turns l.left

abbrev pub decreases-loop-left : goal.decreases-loop-left
decreases-loop-left l = l.left
