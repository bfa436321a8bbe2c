use Rattle.std.proofs.Common.{true}
use Rattle.std.specs.Prelude.{codes}
use Rattle.std.proofs.lemmas.Result.{err_from_is_err_and}
use Rattle.cvd_cursor.specs.Reads.{line_marks}
use Rattle.cvd_sections.proofs.Tokens.{refused_name, reads_named}
use Rattle.cvd_sections.proofs.whole.read_last_line.Goals as goal

pub returns-in_err-expect : goal.returns-in_err-expect
returns-in_err-expect c =
    let p = err_from_is_err_and c.from_residual.result c.from_residual.ensures.1 in
    rw (p.1, p.2) (refused_name (codes "end") (line_marks true) tt c.args.cursor.now _ _ c.in_err-expect.ensures)

pub returns : goal.returns
returns c =
    reads_named (codes "end") (line_marks true) (λ u held. Unit {0}) c.args.cursor.now _ _ c.end_line.result c.in_ok-expect.ensures.1.0 c.end_line.ensures
