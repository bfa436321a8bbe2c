use Rattle.std.proofs.Common.{sym, ◌∙◌, ap, subst, arith}
use Rattle.std.proofs.lemmas.Bool.{true≢false}
use Rattle.design_tree.specs.declared.step.Piece.TheVariants as piece
use Rattle.design_meaning.specs.Sizes.{nodes}
use Rattle.design_meaning.specs.Widths.{width_of}
use Rattle.cvd_text.specs.Targets.{is_piece}
use Rattle.cvd_targets.specs.PieceParts.{PieceIn}
use Rattle.cvd_targets.specs.Positions.{ExpressionIn}
use Rattle.cvd_targets.proofs.Lists.{both_false}
use Rattle.cvd_targets.proofs.PieceForms.{value_is, value_few, value_wide, dec_columns}
use Rattle.cvd_targets.proofs.shown.dec_piece.Goals as goal

pub returns-in_default : goal.returns-in_default
returns-in_default c = λ d e v h. both_false _ _ (subst (ExpressionIn d e) c.in_default.is h)

pub returns-then-not-is_width : goal.returns-then-not-is_width
returns-then-not-is_width c = λ d e v h.
    let x = subst (ExpressionIn d e) c.in-Some.is h in
    absurd (true≢false (sym (value_wide d e c.in-Some.value x v) ∙ sym c.is_width.ensures.value ∙ c.if-not-is_width.true))

pub returns : goal.returns
returns c = λ d e v h.
    let x = subst (ExpressionIn d e) c.in-Some.is h in
    let is = c.into_inner.ensures ∙ x.tree_is in
    subst (λ t. PieceIn d (piece.Dec c.args.signed c.args.short t) c.finished.result) is
    (c.finished.ensures d (ap (λ t. is_piece d (piece.Dec c.args.signed c.args.short t)) is ∙ value_is d e c.in-Some.value x)
    (x.nodes_are ∙ sym (ap nodes is)) (omega (arith, value_few d e c.in-Some.value x, ap nodes is))
    (dec_columns d c.into_inner.result c.in-Some.value.width _ c.args.signed c.args.short (x.width_is
    ∙ sym (ap (width_of d) is)) c.columns_of-shown.ensures))
