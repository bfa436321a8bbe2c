use Rattle.std.proofs.Common.{refl}
use Rattle.std.proofs.lemmas.Result.{err_from_is_err_and}
use Rattle.cvd_text.specs.Sections.{point_line}
use Rattle.cvd_sections.specs.Alone.{row_marks}
use Rattle.cvd_sections.proofs.PointEnds.{closes_line, key_halts, rest_halts, sides_halt}
use Rattle.cvd_sections.proofs.Points.{point_by}
use Rattle.cvd_sections.proofs.point.read_point.Goals as goal

pub returns-in_err-sides : goal.returns-in_err-sides
returns-in_err-sides c = λ before last.
    let p = err_from_is_err_and c.from_residual.result c.from_residual.ensures.1 in
    rw (p.1, p.2) (sides_halt (point_line c.args.counters before) (λ q. row_marks (point_line c.args.counters before q)) (λ r. refl) c.args.cursor.now _ _
    c.in_err-sides.ensures)

pub returns-in_err-key : goal.returns-in_err-key
returns-in_err-key c = λ before last.
    let a = c.in_ok-sides.ensures in
    let p = err_from_is_err_and c.from_residual-in_err-key.result c.from_residual-in_err-key.ensures.1 in
    rw (p.1, p.2) (rest_halts (point_line c.args.counters before) (λ q. row_marks (point_line c.args.counters before q)) (λ r. refl) c.args.cursor.now _ _
    a.0 _ a.1.0
    (key_halts _ _ _ c.in_err-key.ensures (λ k. (point_line c.args.counters before (point_by (a.0, k))).holds)))

pub returns : goal.returns
returns c = λ before last.
    let a = c.in_ok-sides.ensures in
    let k = c.in_ok-key.ensures in
    closes_line (point_line c.args.counters before) (λ q. row_marks (point_line c.args.counters before q)) (λ r. refl) c.args.cursor.now _ _ _ a.0
    c.in_ok-key.key _ _
    a.1.0 k.0 k.1 (c.point_of-found.ensures before (point_by (a.0, c.in_ok-key.key)) last a.1.1 refl) c.close.ensures
