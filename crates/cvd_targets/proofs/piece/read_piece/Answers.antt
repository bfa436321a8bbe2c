use Rattle.std.proofs.Common.{subst}
use Rattle.std.proofs.lemmas.Result.{err_from_is_err_and}
use Rattle.design_tree.specs.declared.step.Piece.{Piece}
use Rattle.cvd_text.specs.Targets.{piece_tokens}
use Rattle.cvd_cursor.specs.Reads.{Refused, Takes, marks}
use Rattle.cvd_cursor.proofs.Composed.{takes_both, refused_first, refused_second, takes_as, refused_by}
use Rattle.cvd_step_laws.specs.LineMarks.{with_vars}
use Rattle.cvd_targets.specs.PieceParts.{form_tokens, Parts, parts_marks, made, PieceIn}
use Rattle.cvd_targets.specs.declared.piece.PieceForm.{PieceForm}
use Rattle.cvd_targets.proofs.PieceForms.{Whole, whole_marks, to, from, alike, alike_to, apart_form, some_parts}
use Rattle.cvd_targets.proofs.piece.read_piece.Goals as goal

pub returns-in_err-form : goal.returns-in_err-form
returns-in_err-form c =
    let old = c.args.cursor.now in
    let p = err_from_is_err_and c.from_residual.result c.from_residual.ensures.1 in
    rw (p.1, p.2) (refused_by Whole Piece to from whole_marks (marks piece_tokens) alike alike_to old _ _
    (refused_first PieceForm Parts (marks form_tokens) parts_marks apart_form some_parts old _ _ c.in_err-form.ensures))

pub returns-in_err-held : goal.returns-in_err-held
returns-in_err-held c =
    let old = c.args.cursor.now in
    let a = c.in_ok-form.ensures in
    let p = err_from_is_err_and c.from_residual-in_err-held.result c.from_residual-in_err-held.ensures.1 in
    rw (p.1, p.2) (refused_by Whole Piece to from whole_marks (marks piece_tokens) alike alike_to old _ _
    (refused_second PieceForm Parts (marks form_tokens) parts_marks a.0 (apart_form a.0) old _ _ _ a.1.0
    (subst (λ f. Refused (parts_marks f) c.read_form.new.cursor c.in_err-held.field-0.0 c.rest.new.cursor) a.1.1 c.in_err-held.ensures)))

pub returns : goal.returns
returns c =
    let old = c.args.cursor.now in
    let mid = c.read_form.new.cursor in
    let new = c.rest.new.cursor in
    let d = with_vars c.args.vars.now in
    let a = c.in_ok-form.ensures in
    let b = subst (λ f. (x : Parts f) × (Takes (parts_marks f) mid new x × PieceIn d (made f x) c.in_ok-held.held)) a.1.1 c.in_ok-held.ensures in
    let whole = takes_both PieceForm Parts (marks form_tokens) parts_marks old mid new a.0 b.0 a.1.0 b.1.0 in
    (to (a.0, b.0), (takes_as Whole Piece to from whole_marks (marks piece_tokens) alike alike_to old new (a.0, b.0) whole, b.1.1))
