use Rattle.std.proofs.Common.{[]}
use Rattle.std.proofs.lemmas.Result.{err_from_is_err_and}
use Rattle.cvd_text.specs.Sections.{toggle_lines}
use Rattle.cvd_step_laws.specs.LineMarks.{with_vars}
use Rattle.cvd_section_laws.proofs.Sections.{apart_toggles}
use Rattle.cvd_section_laws.proofs.Whole.{points_on}
use Rattle.cvd_sort_laws.proofs.TokenSorts.{line_ends}
use Rattle.cvd_sort_laws.proofs.WholeSorts.{toggles_sorted}
use Rattle.cvd_sections.specs.Alone.{marks_alone}
use Rattle.cvd_read.proofs.Chain.{plain_takes, plain_sorted, plain_more}
use Rattle.cvd_read.proofs.Cut.{cut_kept}
use Rattle.cvd_read.proofs.PlainSections.{toggles_plain}
use Rattle.cvd_read.proofs.entries.read_entries.Goals as goal

pub read_last-requires : goal.read_last-requires
read_last-requires c =
    let a = c.in_ok-toggles.ensures in
    cut_kept (λ ts. marks_alone (toggle_lines (with_vars c.args.vars.now) c.args.counters ts)) c.args.cursor.now c.read_toggles.new.cursor a.0 a.1.0
    c.requires.cut

pub returns-in_err-toggles : goal.returns-in_err-toggles
returns-in_err-toggles c = λ load within.
    let n = c.args.counters in
    let vars = c.args.vars.now in
    let p = err_from_is_err_and c.from_residual.result c.from_residual.ensures.1 in
    rw (p.1, p.2) (plain_sorted (toggle_lines (with_vars vars) n) (λ toggles. points_on n) load within (toggles_plain vars n) (apart_toggles load vars n)
    (λ top. toggles_sorted line_ends top load vars n) ([], tt) c.args.cursor.now _ _ c.in_err-toggles.ensures)

pub returns-in_err-points : goal.returns-in_err-points
returns-in_err-points c = λ load within.
    let n = c.args.counters in
    let vars = c.args.vars.now in
    let a = c.in_ok-toggles.ensures in
    let p = err_from_is_err_and c.from_residual-in_err-points.result c.from_residual-in_err-points.ensures.1 in
    rw (p.1, p.2) (plain_more (toggle_lines (with_vars vars) n) (λ toggles. points_on n) load within (toggles_plain vars n) (apart_toggles load vars n)
    c.args.cursor.now c.read_toggles.new.cursor _ a.0 _ a.1.0 (c.in_err-points.ensures load within))

pub returns : goal.returns
returns c = λ load within.
    let n = c.args.counters in
    let vars = c.args.vars.now in
    let a = c.in_ok-toggles.ensures in
    let b = c.in_ok-points.ensures load within in (
      (a.0, b.0),
      (
        plain_takes (toggle_lines (with_vars vars) n) (λ toggles. points_on n) load within (toggles_plain vars n) c.args.cursor.now c.read_toggles.new.cursor
            c.read_last.new.cursor a.0 b.0 a.1.0 b.1.0,
        record { toggles = a.1.1; points = b.1.1 },
      ),
    )
