use Rattle.std.proofs.Common.{sym, subst}
use Rattle.std.proofs.lemmas.Result.{err_from_is_err_and}
use Rattle.cvd_cursor.specs.Reads.{Takes}
use Rattle.cvd_section_laws.proofs.Whole.{made_design}
use Rattle.cvd_read.proofs.Cut.{cut_kept}
use Rattle.cvd_read.proofs.FirstLines.{counters_alone, first_alone, takes_design, first_halts, counters_halt, variables_halt}
use Rattle.cvd_read.proofs.design.read_lines.Goals as goal

pub read_variables-requires : goal.read_variables-requires
read_variables-requires c =
    let a = c.in_ok-read_first_line.ensures in
    let n = c.in_ok-counters.ensures in
    cut_kept counters_alone c.read_first_line.new.cursor c.read_counters.new.cursor n.0 n.1.0
    (cut_kept first_alone c.args.cursor.now c.read_first_line.new.cursor a.0 a.1.0 c.requires)

pub returns-in_err-read_first_line : goal.returns-in_err-read_first_line
returns-in_err-read_first_line c =
    let p = err_from_is_err_and c.from_residual.result c.from_residual.ensures.1 in
    rw (p.1, p.2) (first_halts c.args.cursor.now _ _ c.in_err-read_first_line.ensures)

pub returns-in_err-counters : goal.returns-in_err-counters
returns-in_err-counters c =
    let a = c.in_ok-read_first_line.ensures in
    let p = err_from_is_err_and c.from_residual-in_err-counters.result c.from_residual-in_err-counters.ensures.1 in
    rw (p.1, p.2) (counters_halt c.args.cursor.now c.read_first_line.new.cursor _ _ a.1.0 c.in_err-counters.ensures)

pub returns-in_err-design : goal.returns-in_err-design
returns-in_err-design c =
    let a = c.in_ok-read_first_line.ensures in
    let n = c.in_ok-counters.ensures in
    let here = subst (λ k. Takes counters_alone c.read_first_line.new.cursor c.read_counters.new.cursor k) (sym n.1.1) n.1.0 in
    let p = err_from_is_err_and c.from_residual-in_err-design.result c.from_residual-in_err-design.ensures.1 in
    rw (p.1, p.2) (variables_halt c.args.cursor.now c.read_first_line.new.cursor c.read_counters.new.cursor _ c.in_ok-counters.counters _ a.1.0 here
    c.in_err-design.ensures)

pub returns : goal.returns
returns c =
    let a = c.in_ok-read_first_line.ensures in
    let n = c.in_ok-counters.ensures in
    let d = c.in_ok-design.ensures in
    let counters = c.in_ok-counters.counters in
    let here = subst (λ k. Takes counters_alone c.read_first_line.new.cursor c.read_counters.new.cursor k) (sym n.1.1) n.1.0 in (
      made_design (tt, (counters, d.0)),
      (
        takes_design c.args.cursor.now c.read_first_line.new.cursor c.read_counters.new.cursor c.read_variables.new.cursor counters d.0 a.1.0 here d.1.0,
        d.1.1,
      ),
    )
