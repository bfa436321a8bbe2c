use Rattle.std.proofs.Common.{ℕ}
use Rattle.std.proofs.lemmas.Result.{err_from_is_err_and}
use Rattle.cvd_cursor.proofs.Composed.{takes_both, refused_first, refused_second}
use Rattle.cvd_cursor.specs.Numerals.{number_tokens}
use Rattle.cvd_cursor.specs.Reads.{marks}
use Rattle.cvd_nodes.proofs.Fields.{apart_number}
use Rattle.cvd_sections.proofs.field.two.Goals as goal

pub returns-in_err-first : goal.returns-in_err-first
returns-in_err-first c =
    let p = err_from_is_err_and c.from_residual.result c.from_residual.ensures.1 in
    rw (p.1, p.2) (refused_first ℕ (λ n. ℕ) (marks number_tokens) (λ n. marks number_tokens) apart_number (λ n. 0) c.args.cursor.now _ _ c.in_err-first.ensures)

pub returns-in_err-second : goal.returns-in_err-second
returns-in_err-second c =
    let a = c.in_ok-first.ensures in
    let p = err_from_is_err_and c.from_residual-in_err-second.result c.from_residual-in_err-second.ensures.1 in
    rw (p.1, p.2) (refused_second ℕ (λ n. ℕ) (marks number_tokens) (λ n. marks number_tokens) a.0 (apart_number a.0) c.args.cursor.now _ _ _ a.1.0
    c.in_err-second.ensures)

pub returns : goal.returns
returns c =
    let a = c.in_ok-first.ensures in
    let b = c.in_ok-second.ensures in
    ((a.0, b.0), (takes_both ℕ (λ n. ℕ) (marks number_tokens) (λ n. marks number_tokens) c.args.cursor.now _ _ a.0 b.0 a.1.0 b.1.0, (a.1.1, b.1.1)))
