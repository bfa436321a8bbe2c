use Rattle.std.proofs.Common.{refl, [], ◌∷◌}
use Rattle.std.proofs.lemmas.Result.{err_from_is_err_and}
use Rattle.cvd_text.specs.Sections.{point_lines}
use Rattle.cvd_text.specs.Spelling.{last_line}
use Rattle.cvd_section_laws.proofs.Sections.{apart_points}
use Rattle.cvd_section_laws.proofs.Whole.{last_marks}
use Rattle.cvd_sort_laws.proofs.TokenSorts.{line_ends}
use Rattle.cvd_sort_laws.proofs.WholeSorts.{last_sorted}
use Rattle.cvd_sections.specs.Alone.{marks_alone}
use Rattle.cvd_sections.proofs.Lists.{takes_alike, refused_alike}
use Rattle.cvd_read.proofs.Plain.{marks_stay}
use Rattle.cvd_read.proofs.Chain.{plain_takes, plain_halts, plain_more, sorted_halts}
use Rattle.cvd_read.proofs.PlainSections.{points_plain}
use Rattle.cvd_read.proofs.entries.read_last.Goals as goal

pub returns-in_err-points : goal.returns-in_err-points
returns-in_err-points c = λ load within.
    let n = c.args.counters in
    let p = err_from_is_err_and c.from_residual.result c.from_residual.ensures.1 in
    rw (p.1, p.2) (plain_halts (point_lines n) (λ points. last_marks) load within (points_plain n) (apart_points load n) tt c.args.cursor.now _ _
    c.in_err-points.ensures)

pub returns-in_err-read_last_line : goal.returns-in_err-read_last_line
returns-in_err-read_last_line c = λ load within.
    let n = c.args.counters in
    let a = c.in_ok-points.ensures in
    let p = err_from_is_err_and c.from_residual-in_err-read_last_line.result c.from_residual-in_err-read_last_line.ensures.1 in
    rw (p.1, p.2) (plain_more (point_lines n) (λ points. last_marks) load within (points_plain n) (apart_points load n) c.args.cursor.now
    c.read_points.new.cursor _ a.0 _ a.1.0
    (sorted_halts (last_marks load) (λ top. last_sorted line_ends top load) c.read_points.new.cursor _ _
    (refused_alike (λ u. marks_alone (last_line ∷ [])) (last_marks load) (λ u. marks_stay load within (last_line ∷ []) (refl, tt)) c.read_points.new.cursor _ _
    c.in_err-read_last_line.ensures)))

pub returns : goal.returns
returns c = λ load within.
    let n = c.args.counters in
    let a = c.in_ok-points.ensures in
    let l = c.in_ok-read_last_line.ensures in (
      (a.0, tt),
      (
        plain_takes (point_lines n) (λ points. last_marks) load within (points_plain n) c.args.cursor.now c.read_points.new.cursor c.read_last_line.new.cursor
            a.0 tt a.1.0
            (takes_alike (λ u. marks_alone (last_line ∷ [])) (last_marks load) (λ u. marks_stay load within (last_line ∷ []) (refl, tt))
            c.read_points.new.cursor c.read_last_line.new.cursor tt l.1.0),
        a.1.1,
      ),
    )
