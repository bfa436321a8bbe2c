use Rattle.std.proofs.Common.{codes, refl, sym, ◌∙◌}
use Rattle.std.proofs.lemmas.Result.{err_from_is_err_and}
use Rattle.cvd_text.specs.Lines.{stands}
use Rattle.cvd_cursor.specs.Reads.{marks}
use Rattle.cvd_step_laws.specs.StepMarks.{this_word, begin_line}
use Rattle.cvd_step_laws.proofs.PartsApart.{apart_word}
use Rattle.cvd_steps.specs.Bodies.{load_of}
use Rattle.cvd_steps.specs.Lines.{begin_marks}
use Rattle.cvd_steps.proofs.EndedLines.{refused_value, refused_end, takes_line}
use Rattle.cvd_steps.proofs.Adding.{le_of, stood}
use Rattle.cvd_steps.proofs.Borders.{begin_flag}
use Rattle.cvd_steps.proofs.border.begin.Goals as goal

abbrev Begun : Type 0
Begun = (word : Unit {0}) × Unit {0}

pub returns-in_err-expect-clause-reads : goal.returns-in_err-expect-clause-reads
returns-in_err-expect-clause-reads c =
    let before = load_of c.args.sums in
    let p = err_from_is_err_and c.from_residual.result c.from_residual.ensures.1 in
    rw (p.1, p.2) (refused_value (Unit {0}) Begun (marks (this_word (codes "begin"))) (λ u. stands before (begin_line c.args.deep))
    (begin_marks before c.args.deep)
    (λ u. (u, tt)) (λ q. q.0) (λ q. refl) (λ u. refl) (apart_word (codes "begin")) c.args.cursor.now _ _ c.in_err-expect.ensures)

pub returns-in_err-end_line-clause-reads : goal.returns-in_err-end_line-clause-reads
returns-in_err-end_line-clause-reads c =
    let before = load_of c.args.sums in
    let a = c.in_ok-expect.ensures in
    let deep = c.args.deep in
    let p = err_from_is_err_and c.from_residual-in_err-end_line.result c.from_residual-in_err-end_line.ensures.1 in
    rw (p.1, p.2) (refused_end (Unit {0}) Begun (marks (this_word (codes "begin"))) (λ u. stands before (begin_line deep)) (begin_marks before deep)
    (λ u. (u, tt)) (λ q. q.0) (λ q. refl) (λ u. refl) (apart_word (codes "begin")) a.0 _ (begin_flag before deep _ c.requires c.reaches-stands.ensures)
    c.args.cursor.now c.expect.new.cursor _ _ a.1.0 c.in_err-end_line.ensures)

pub returns-clause-reads : goal.returns-clause-reads
returns-clause-reads c =
    let before = load_of c.args.sums in
    let a = c.in_ok-expect.ensures in
    let b = c.in_ok-end_line.ensures in
    let deep = c.args.deep in (
      (a.0, tt),
      (
        takes_line (Unit {0}) Begun (marks (this_word (codes "begin"))) (λ u. stands before (begin_line deep)) (begin_marks before deep)
            (λ u. (u, tt)) (λ q. q.0) (λ q. refl) (λ u. refl) (apart_word (codes "begin")) a.0 _ (begin_flag before deep _ c.requires c.reaches-stands.ensures)
            c.args.cursor.now c.expect.new.cursor _ a.1.0 b.1.0,
        tt,
      ),
    )

pub returns-clause-deep : goal.returns-clause-deep
returns-clause-deep c =
    let b = c.in_ok-end_line.ensures in
    le_of c.args.deep 700 (sym c.reaches-stands.ensures ∙ stood c.reaches-stands.result c.expect.new.cursor c.end_line.new.self b.1.0)
