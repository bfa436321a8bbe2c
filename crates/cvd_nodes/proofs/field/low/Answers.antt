use Rattle.std.proofs.Common.{ℕ, Bool, true}
use Rattle.cvd_cursor.specs.Numerals.{number_tokens}
use Rattle.cvd_cursor.specs.Reads.{marks}
use Rattle.std.proofs.lemmas.Result.{err_from_is_err_and}
use Rattle.cvd_cursor.proofs.Composed.{takes_both, refused_first, refused_second}
use Rattle.cvd_nodes.specs.Nodes.{sign_tokens}
use Rattle.cvd_nodes.proofs.Fields.{apart_number}
use Rattle.cvd_nodes.proofs.field.low.Goals as goal

pub returns-in_err-low : goal.returns-in_err-low
returns-in_err-low c =
    let p = err_from_is_err_and c.from_residual.result c.from_residual.ensures.1 in
    rw (p.1, p.2) (refused_first ℕ (λ n. Bool) (marks number_tokens) (λ n. marks sign_tokens) apart_number (λ n. true) c.args.cursor.now _ _
    c.in_err-low.ensures)

pub returns-in_err-signed : goal.returns-in_err-signed
returns-in_err-signed c =
    let a = c.in_ok-low.ensures in
    let p = err_from_is_err_and c.from_residual-in_err-signed.result c.from_residual-in_err-signed.ensures.1 in
    rw (p.1, p.2) (refused_second ℕ (λ n. Bool) (marks number_tokens) (λ n. marks sign_tokens) a.0 (apart_number a.0) c.args.cursor.now _ _ _ a.1.0
    c.in_err-signed.ensures)

pub returns : goal.returns
returns c =
    let a = c.in_ok-low.ensures in
    let s = c.in_ok-signed.ensures in
    ((a.0, s.0), (takes_both ℕ (λ n. Bool) (marks number_tokens) (λ n. marks sign_tokens) c.args.cursor.now _ _ a.0 s.0 a.1.0 s.1.0, (a.1.1, s.1.1)))
