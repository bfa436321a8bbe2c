use Rattle.std.proofs.Common.{true}
use Rattle.std.specs.Prelude.{codes}
use Rattle.std.proofs.lemmas.Result.{err_from_is_err_and}
use Rattle.cvd_cursor.specs.Reads.{line_marks}
use Rattle.cvd_sections.proofs.Tokens.{named, refused_name, refused_behind, reads_named}
use Rattle.cvd_sections.proofs.whole.read_first_line.Goals as goal

pub returns-in_err-expect : goal.returns-in_err-expect
returns-in_err-expect c =
    let p = err_from_is_err_and c.from_residual.result c.from_residual.ensures.1 in
    rw (p.1, p.2) (refused_name (codes "CVD") (named (codes "1") (line_marks true)) tt c.args.cursor.now _ _ c.in_err-expect.ensures)

pub returns-in_err-expect-2 : goal.returns-in_err-expect-2
returns-in_err-expect-2 c =
    let p = err_from_is_err_and c.from_residual-in_err-expect-2.result c.from_residual-in_err-expect-2.ensures.1 in
    rw (p.1, p.2) (refused_behind (codes "CVD") (named (codes "1") (line_marks true)) c.args.cursor.now c.expect.new.cursor _ _ c.in_ok-expect.ensures.1.0
    (refused_name (codes "1") (line_marks true) tt c.expect.new.cursor _ _ c.in_err-expect-2.ensures))

pub returns : goal.returns
returns c =
    reads_named (codes "CVD") (named (codes "1") (line_marks true)) (λ u held. Unit {0}) c.args.cursor.now _ _ c.end_line.result c.in_ok-expect.ensures.1.0
    (reads_named (codes "1") (line_marks true) (λ u held. Unit {0}) c.expect.new.cursor _ _ c.end_line.result c.in_ok-expect-2.ensures.1.0 c.end_line.ensures)
