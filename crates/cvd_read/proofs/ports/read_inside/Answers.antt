use Rattle.std.proofs.Common.{[]}
use Rattle.std.proofs.lemmas.Result.{err_from_is_err_and}
use Rattle.cvd_text.specs.Sections.{output_lines}
use Rattle.cvd_section_laws.proofs.Sections.{apart_outputs, with_outputs}
use Rattle.cvd_section_laws.proofs.Whole.{processes_on}
use Rattle.cvd_sort_laws.proofs.TokenSorts.{line_ends}
use Rattle.cvd_sort_laws.proofs.DesignSorts.{outputs_sorted}
use Rattle.cvd_sections.specs.Alone.{marks_alone}
use Rattle.cvd_steps.specs.Bodies.{load_of}
use Rattle.cvd_read.proofs.Chain.{plain_takes, plain_sorted, plain_more}
use Rattle.cvd_read.proofs.Cut.{cut_kept}
use Rattle.cvd_read.proofs.PlainSections.{outputs_plain}
use Rattle.cvd_read.proofs.ports.read_inside.Goals as goal

pub read_behaviour-requires-clause-cut : goal.read_behaviour-requires-clause-cut
read_behaviour-requires-clause-cut c =
    let a = c.in_ok-outputs.ensures in
    cut_kept (λ xs. marks_alone (output_lines (with_outputs c.args.vars.now xs))) c.args.cursor.now c.read_outputs.new.cursor a.0 a.1.0 c.requires.cut

pub returns-in_err-outputs : goal.returns-in_err-outputs
returns-in_err-outputs c =
    let n = c.args.counters in
    let vars = c.args.vars.now in
    let load = load_of c.args.sums in
    let p = err_from_is_err_and c.from_residual.result c.from_residual.ensures.1 in
    rw (p.1, p.2) (plain_sorted (λ xs. output_lines (with_outputs vars xs)) (λ xs. processes_on vars n) load c.requires.sums (outputs_plain vars)
    (apart_outputs load vars) (λ top. outputs_sorted line_ends top load vars) ([], ([], ([], tt))) c.args.cursor.now _ _ c.in_err-outputs.ensures)

pub returns-in_err-behaviour : goal.returns-in_err-behaviour
returns-in_err-behaviour c =
    let n = c.args.counters in
    let vars = c.args.vars.now in
    let load = load_of c.args.sums in
    let a = c.in_ok-outputs.ensures in
    let p = err_from_is_err_and c.from_residual-in_err-behaviour.result c.from_residual-in_err-behaviour.ensures.1 in
    rw (p.1, p.2) (plain_more (λ xs. output_lines (with_outputs vars xs)) (λ xs. processes_on vars n) load c.requires.sums (outputs_plain vars)
    (apart_outputs load vars) c.args.cursor.now c.read_outputs.new.cursor _ a.0 _ a.1.0 c.in_err-behaviour.ensures)

pub returns : goal.returns
returns c =
    let n = c.args.counters in
    let vars = c.args.vars.now in
    let load = load_of c.args.sums in
    let a = c.in_ok-outputs.ensures in
    let b = c.in_ok-behaviour.ensures in (
      (a.0, b.0),
      (
        plain_takes (λ xs. output_lines (with_outputs vars xs)) (λ xs. processes_on vars n) load c.requires.sums (outputs_plain vars) c.args.cursor.now
            c.read_outputs.new.cursor c.read_behaviour.new.cursor a.0 b.0 a.1.0 b.1.0,
        record { outputs = a.1.1; behaviour = b.1.1 },
      ),
    )
