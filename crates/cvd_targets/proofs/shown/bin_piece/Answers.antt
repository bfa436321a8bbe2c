use Rattle.std.proofs.Common.{sym, ◌∙◌, ap, subst, arith}
use Rattle.design_tree.specs.declared.step.Piece.TheVariants as piece
use Rattle.design_meaning.specs.Sizes.{nodes}
use Rattle.design_meaning.specs.Widths.{width_of}
use Rattle.cvd_text.specs.Targets.{is_piece}
use Rattle.cvd_targets.specs.PieceParts.{PieceIn}
use Rattle.cvd_targets.specs.Positions.{ExpressionIn}
use Rattle.cvd_targets.proofs.PieceForms.{value_is, value_few}
use Rattle.cvd_targets.proofs.shown.bin_piece.Goals as goal

pub returns : goal.returns
returns c = λ d e h.
    let x = subst (ExpressionIn d e) c.in-Some.is h in
    let is = c.into_inner.ensures ∙ x.tree_is in
    subst (λ t. PieceIn d (piece.Bin c.args.short t) c.finished.result) is
    (c.finished.ensures d (ap (λ t. is_piece d (piece.Bin c.args.short t)) is ∙ value_is d e c.in-Some.value x)
    (x.nodes_are ∙ sym (ap nodes is)) (omega (arith, value_few d e c.in-Some.value x, ap nodes is))
    (x.width_is ∙ sym (ap (width_of d) is)))
