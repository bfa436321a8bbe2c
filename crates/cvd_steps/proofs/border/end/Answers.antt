use Rattle.std.proofs.Common.{codes, refl, sym, ◌∙◌, ap}
use Rattle.std.specs.Prelude.{◌||◌, nat_lt}
use Rattle.std.proofs.lemmas.Result.{err_from_is_err_and}
use Rattle.cvd_text.specs.Lines.{stands}
use Rattle.cvd_text.specs.Steps.{may_be_empty}
use Rattle.cvd_cursor.specs.Reads.{marks}
use Rattle.cvd_step_laws.specs.StepMarks.{this_word, end_line, block_end, within}
use Rattle.cvd_step_laws.proofs.PartsApart.{apart_word}
use Rattle.cvd_steps.specs.Bodies.{load_of}
use Rattle.cvd_steps.proofs.EndedLines.{refused_value, refused_end, takes_line}
use Rattle.cvd_steps.proofs.Borders.{end_flag}
use Rattle.cvd_steps.proofs.border.end.Goals as goal

pub returns-in_err-expect : goal.returns-in_err-expect
returns-in_err-expect c = λ around k.
    let before = load_of c.args.sums in
    let deep = c.args.deep in
    let n = c.args.count in
    let p = err_from_is_err_and c.from_residual.result c.from_residual.ensures.1 in
    rw (p.1, p.2) (refused_value (Unit {0}) (Unit {0}) (marks (this_word (codes "end"))) (λ u. stands before (end_line around deep n))
    (λ u. block_end around deep (within before n)) (λ u. u) (λ u. u) (λ u. refl) (λ u. refl) (apart_word (codes "end")) c.args.cursor.now _ _
    c.in_err-expect.ensures)

pub returns-in_err-end_line : goal.returns-in_err-end_line
returns-in_err-end_line c = λ around k.
    let before = load_of c.args.sums in
    let deep = c.args.deep in
    let n = c.args.count in
    let a = c.in_ok-expect.ensures in
    let flag = end_flag around before deep n _ c.requires
    (c.may_end-stands.ensures ∙ ap (λ q. may_be_empty q || nat_lt 1 deep || nat_lt 0 n) (sym k)) in
    let p = err_from_is_err_and c.from_residual-in_err-end_line.result c.from_residual-in_err-end_line.ensures.1 in
    rw (p.1, p.2) (refused_end (Unit {0}) (Unit {0}) (marks (this_word (codes "end"))) (λ u. stands before (end_line around deep n))
    (λ u. block_end around deep (within before n)) (λ u. u) (λ u. u) (λ u. refl) (λ u. refl) (apart_word (codes "end")) a.0 _ flag
    c.args.cursor.now c.expect.new.cursor _ _ a.1.0 c.in_err-end_line.ensures)

pub returns : goal.returns
returns c = λ around k.
    let before = load_of c.args.sums in
    let deep = c.args.deep in
    let n = c.args.count in
    let a = c.in_ok-expect.ensures in
    let b = c.in_ok-end_line.ensures in
    let flag = end_flag around before deep n _ c.requires
    (c.may_end-stands.ensures ∙ ap (λ q. may_be_empty q || nat_lt 1 deep || nat_lt 0 n) (sym k)) in (
      tt,
      (
        takes_line (Unit {0}) (Unit {0}) (marks (this_word (codes "end"))) (λ u. stands before (end_line around deep n))
            (λ u. block_end around deep (within before n)) (λ u. u) (λ u. u) (λ u. refl) (λ u. refl) (apart_word (codes "end")) a.0 _ flag
            c.args.cursor.now c.expect.new.cursor _ a.1.0 b.1.0,
        tt,
      ),
    )
