use Rattle.std.proofs.Common.{◌≡◌, ◌^◌}
use Rattle.std.proofs.lemmas.Result.{err_from_is_err_and}
use Rattle.cvd_cursor.specs.Numerals.{below, number_tokens}
use Rattle.cvd_cursor.specs.Reads.{marks}
use Rattle.cvd_sections.proofs.Tokens.{refused_name, reads_named}
use Rattle.cvd_sections.proofs.heading.read_heading.Goals as goal

pub returns-in_err-expect : goal.returns-in_err-expect
returns-in_err-expect c =
    let p = err_from_is_err_and c.from_residual.result c.from_residual.ensures.1 in
    rw (p.1, p.2) (refused_name c.args.name.now (marks number_tokens) 0 c.args.cursor.now _ _ c.in_err-expect.ensures)

pub returns : goal.returns
returns c =
    reads_named c.args.name.now (marks number_tokens) (λ n held. held ≡ below (2 ^ 64) n) c.args.cursor.now _ _ c.number.result c.in_ok-expect.ensures.1.0
    c.number.ensures
