use Rattle.std.proofs.Common.{ℕ}
use Rattle.std.proofs.lemmas.Result.{err_from_is_err_and}
use Rattle.cvd_cursor.specs.Numerals.{number_tokens}
use Rattle.cvd_cursor.specs.Reads.{marks}
use Rattle.cvd_cursor.proofs.Composed.{takes_both, refused_first, refused_second}
use Rattle.cvd_step_laws.specs.LineMarks.{with_vars}
use Rattle.cvd_nodes.proofs.Fields.{apart_number}
use Rattle.cvd_targets.specs.Positions.{At, at_marks}
use Rattle.cvd_targets.proofs.Positions.{some_at}
use Rattle.cvd_targets.proofs.target.word.Goals as goal

pub returns-in_err-var : goal.returns-in_err-var
returns-in_err-var c =
    let p = err_from_is_err_and c.from_residual.result c.from_residual.ensures.1 in
    rw (p.1, p.2) (refused_first ℕ (λ n. At) (marks number_tokens) (λ n. at_marks) apart_number (λ n. some_at) c.args.cursor.now _ _ c.in_err-var.ensures)

pub returns-in_err-at : goal.returns-in_err-at
returns-in_err-at c =
    let a = c.in_ok-var.ensures in
    let p = err_from_is_err_and c.from_residual-in_err-at.result c.from_residual-in_err-at.ensures.1 in
    rw (p.1, p.2) (refused_second ℕ (λ n. At) (marks number_tokens) (λ n. at_marks) a.0 (apart_number a.0) c.args.cursor.now _ _ _ a.1.0 c.in_err-at.ensures)

pub returns : goal.returns
returns c =
    let a = c.in_ok-var.ensures in
    let b = c.in_ok-at.ensures in (
      (a.0, b.0),
      (
        takes_both ℕ (λ n. At) (marks number_tokens) (λ n. at_marks) c.args.cursor.now _ _ a.0 b.0 a.1.0 b.1.0,
        c.word_of.ensures (with_vars c.args.vars.now) c.args.kind a.0 b.0 (c.find_named.ensures a.0 a.1.1) b.1.1,
      ),
    )
