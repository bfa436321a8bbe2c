use Rattle.std.proofs.Common.{[]}
use Rattle.std.proofs.lemmas.Result.{err_from_is_err_and}
use Rattle.cvd_text.specs.Sections.{processes_lines}
use Rattle.cvd_step_laws.specs.LineMarks.{load_behind}
use Rattle.cvd_section_laws.proofs.Sections.{apart_processes, with_processes}
use Rattle.cvd_section_laws.proofs.Whole.{toggles_on}
use Rattle.cvd_sort_laws.proofs.TokenSorts.{line_ends}
use Rattle.cvd_sort_laws.proofs.WholeSorts.{processes_sorted}
use Rattle.cvd_steps.specs.Bodies.{load_of}
use Rattle.cvd_read.proofs.Chain.{takes_then, section_sorted, more_halts}
use Rattle.cvd_read.proofs.Cut.{cut_kept}
use Rattle.cvd_read.proofs.Processes.{section}
use Rattle.cvd_read.proofs.behaviour.read_behaviour.Goals as goal

pub read_entries-requires-clause-cut : goal.read_entries-requires-clause-cut
read_entries-requires-clause-cut c =
    let a = c.in_ok-processes.ensures in
    cut_kept (section c.args.vars.now c.args.counters (load_of c.args.sums)) c.args.cursor.now c.read_processes.new.cursor a.0 a.1.0 c.requires.cut

pub returns-in_err-processes : goal.returns-in_err-processes
returns-in_err-processes c =
    let n = c.args.counters in
    let vars = c.args.vars.now in
    let load = load_of c.args.sums in
    let p = err_from_is_err_and c.from_residual.result c.from_residual.ensures.1 in
    rw (p.1, p.2) (section_sorted (λ ps. processes_lines (with_processes vars ps) n) (λ ps. toggles_on vars n) load (apart_processes load vars n)
    (λ top. processes_sorted line_ends top load vars n) ([], ([], tt)) c.args.cursor.now _ _ c.in_err-processes.ensures)

pub returns-in_err-entries : goal.returns-in_err-entries
returns-in_err-entries c =
    let n = c.args.counters in
    let vars = c.args.vars.now in
    let load = load_of c.args.sums in
    let a = c.in_ok-processes.ensures in
    let p = err_from_is_err_and c.from_residual-in_err-entries.result c.from_residual-in_err-entries.ensures.1 in
    rw (p.1, p.2) (more_halts (λ ps. processes_lines (with_processes vars ps) n) (λ ps. toggles_on vars n) load (apart_processes load vars n)
    c.args.cursor.now c.read_processes.new.cursor _ a.0 _ a.1.0
    (c.in_err-entries.ensures (load_behind load (processes_lines (with_processes vars a.0) n)) a.1.1.within))

pub returns : goal.returns
returns c =
    let n = c.args.counters in
    let vars = c.args.vars.now in
    let load = load_of c.args.sums in
    let a = c.in_ok-processes.ensures in
    let b = c.in_ok-entries.ensures (load_behind load (processes_lines (with_processes vars a.0) n)) a.1.1.within in (
      (a.0, b.0),
      (
        takes_then (λ ps. processes_lines (with_processes vars ps) n) (λ ps. toggles_on vars n) load c.args.cursor.now c.read_processes.new.cursor
            c.read_entries.new.cursor a.0 b.0 a.1.0 b.1.0,
        record { processes = a.1.1.same; entries = b.1.1 },
      ),
    )
