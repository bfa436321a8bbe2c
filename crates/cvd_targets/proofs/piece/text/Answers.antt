use Rattle.std.proofs.Common.{subst}
use Rattle.design_tree.specs.declared.step.Piece.TheVariants as piece
use Rattle.cvd_step_laws.specs.LineMarks.{with_vars}
use Rattle.cvd_targets.specs.PieceParts.{PieceIn}
use Rattle.cvd_targets.proofs.piece.text.Goals as goal

pub returns : goal.returns
returns c =
    let a = c.in_ok-bytes.ensures in
    let d = with_vars c.args.vars.now in
    (a.0, (a.1.0, subst (λ b. PieceIn d (piece.Text b) c.text_piece.result) a.1.1 (c.text_piece.ensures d)))
