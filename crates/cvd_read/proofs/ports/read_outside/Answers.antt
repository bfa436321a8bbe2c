use Rattle.std.proofs.Common.{[]}
use Rattle.std.proofs.lemmas.Result.{err_from_is_err_and}
use Rattle.cvd_text.specs.Sections.{input_lines}
use Rattle.cvd_section_laws.proofs.Sections.{apart_inputs, with_inputs}
use Rattle.cvd_section_laws.proofs.Whole.{outputs_on}
use Rattle.cvd_sort_laws.proofs.TokenSorts.{line_ends}
use Rattle.cvd_sort_laws.proofs.DesignSorts.{inputs_sorted}
use Rattle.cvd_sections.specs.Alone.{marks_alone}
use Rattle.cvd_steps.specs.Bodies.{load_of}
use Rattle.cvd_read.proofs.Chain.{plain_takes, plain_sorted, plain_more}
use Rattle.cvd_read.proofs.Cut.{cut_kept}
use Rattle.cvd_read.proofs.PlainSections.{inputs_plain}
use Rattle.cvd_read.proofs.ports.read_outside.Goals as goal

pub read_inside-requires-clause-cut : goal.read_inside-requires-clause-cut
read_inside-requires-clause-cut c =
    let a = c.in_ok-inputs.ensures in
    cut_kept (λ xs. marks_alone (input_lines (with_inputs c.args.vars.now xs))) c.args.cursor.now c.read_inputs.new.cursor a.0 a.1.0 c.requires.cut

pub returns-in_err-inputs : goal.returns-in_err-inputs
returns-in_err-inputs c =
    let n = c.args.counters in
    let vars = c.args.vars.now in
    let load = load_of c.args.sums in
    let p = err_from_is_err_and c.from_residual.result c.from_residual.ensures.1 in
    rw (p.1, p.2) (plain_sorted (λ xs. input_lines (with_inputs vars xs)) (λ xs. outputs_on vars n) load c.requires.sums (inputs_plain vars)
    (apart_inputs load vars) (λ top. inputs_sorted line_ends top load vars) ([], ([], ([], ([], tt)))) c.args.cursor.now _ _ c.in_err-inputs.ensures)

pub returns-in_err-inside : goal.returns-in_err-inside
returns-in_err-inside c =
    let n = c.args.counters in
    let vars = c.args.vars.now in
    let load = load_of c.args.sums in
    let a = c.in_ok-inputs.ensures in
    let p = err_from_is_err_and c.from_residual-in_err-inside.result c.from_residual-in_err-inside.ensures.1 in
    rw (p.1, p.2) (plain_more (λ xs. input_lines (with_inputs vars xs)) (λ xs. outputs_on vars n) load c.requires.sums (inputs_plain vars)
    (apart_inputs load vars) c.args.cursor.now c.read_inputs.new.cursor _ a.0 _ a.1.0 c.in_err-inside.ensures)

pub returns : goal.returns
returns c =
    let n = c.args.counters in
    let vars = c.args.vars.now in
    let load = load_of c.args.sums in
    let a = c.in_ok-inputs.ensures in
    let b = c.in_ok-inside.ensures in (
      (a.0, b.0),
      (
        plain_takes (λ xs. input_lines (with_inputs vars xs)) (λ xs. outputs_on vars n) load c.requires.sums (inputs_plain vars) c.args.cursor.now
            c.read_inputs.new.cursor c.read_inside.new.cursor a.0 b.0 a.1.0 b.1.0,
        record { inputs = a.1.1; inside = b.1.1 },
      ),
    )
