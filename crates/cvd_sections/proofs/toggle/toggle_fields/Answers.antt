use Rattle.std.proofs.lemmas.Result.{err_from_is_err_and}
use Rattle.cvd_sections.proofs.Tokens.{toggle_to, toggle_takes, toggle_front, toggle_back}
use Rattle.cvd_sections.proofs.toggle.toggle_fields.Goals as goal

pub returns-in_err-place : goal.returns-in_err-place
returns-in_err-place c =
    let p = err_from_is_err_and c.from_residual.result c.from_residual.ensures.1 in
    rw (p.1, p.2) (toggle_front c.args.cursor.now _ _ c.in_err-place.ensures)

pub returns-in_err-bit : goal.returns-in_err-bit
returns-in_err-bit c =
    let a = c.in_ok-place.ensures in
    let p = err_from_is_err_and c.from_residual-in_err-bit.result c.from_residual-in_err-bit.ensures.1 in
    rw (p.1, p.2) (toggle_back c.args.cursor.now _ _ a.0 _ a.1.0 c.in_err-bit.ensures)

pub returns : goal.returns
returns c =
    let a = c.in_ok-place.ensures in
    let b = c.in_ok-bit.ensures in
    (toggle_to (a.0, b.0), (toggle_takes c.args.cursor.now _ _ a.0 b.0 a.1.0 b.1.0, (a.1.1, b.1.1)))
