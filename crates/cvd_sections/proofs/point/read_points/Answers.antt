use Rattle.std.proofs.Common.{◌++◌, ◌∷◌, [], refl, sym, ◌∙◌, ap, subst}
use Rattle.std.specs.Prelude.{codes}
use Rattle.std.specs.List.{list_all}
use Rattle.std.proofs.lemmas.Result.{err_from_is_err_and}
use Rattle.design_tree.specs.declared.instrumented.PointRow.{PointRow}
use Rattle.cvd_cursor.specs.Reads.{Refused, Takes, line_marks}
use Rattle.cvd_text.specs.Sections.{is_below}
use Rattle.cvd_sections.specs.Keys.{is_cut, last_key}
use Rattle.cvd_sections.specs.Places.{IsLastOf}
use Rattle.cvd_sections.proofs.KeyWords.{cut_behind}
use Rattle.cvd_sections.proofs.Lists.{row, shorter}
use Rattle.cvd_sections.proofs.Lasts.{below_passes, last_of_more}
use Rattle.cvd_sections.proofs.RowSections.{Goes, row_some, starts, more, one_more, ends}
use Rattle.cvd_sections.proofs.SectionEnds.{heading_halts, heading_ends, next_halts}
use Rattle.cvd_sections.proofs.Points.{alike, apart_rows, each, last_added, may_be, point_stood, section, some_point}
use Rattle.cvd_sections.proofs.point.read_points.Goals as goal

pub returns-in_err-count : goal.returns-in_err-count
returns-in_err-count c =
    let p = err_from_is_err_and c.from_residual.result c.from_residual.ensures.1 in
    rw (p.1, p.2) (heading_halts PointRow (each c.args.counters) (codes "points") may_be (section c.args.counters) (alike c.args.counters) some_point
    (apart_rows c.args.counters) c.args.cursor.now _ _ c.in_err-count.ensures)

pub returns-in_err-end_line : goal.returns-in_err-end_line
returns-in_err-end_line c =
    let a = c.in_ok-count.ensures in
    let p = err_from_is_err_and c.from_residual-in_err-end_line.result c.from_residual-in_err-end_line.ensures.1 in
    rw (p.1, p.2) (heading_ends PointRow (each c.args.counters) (codes "points") may_be (section c.args.counters) (alike c.args.counters) some_point
    (apart_rows c.args.counters) c.args.cursor.now c.read_heading.new.cursor _ a.0 _ a.1.0
    (subst (λ b. Refused (line_marks b) c.read_heading.new.cursor c.in_err-end_line.field-0.0 c.end_line.new.self) (c.may_be.ensures a.0 a.1.1)
    c.in_err-end_line.ensures))

pub points-init : goal.points-init
points-init c =
    let a = c.in_ok-count.ensures in
    let h = c.in_ok-end_line.ensures.1.0 in
    record {
      goes = subst (λ l. Goes PointRow (each c.args.counters) (codes "points") may_be (section c.args.counters) c.args.cursor.now c.end_line.new.self
          c.in_ok-count.count l) (sym c.new-kept.ensures)
          (starts PointRow (each c.args.counters) (codes "points") may_be (section c.args.counters) c.args.cursor.now c.read_heading.new.cursor
          c.end_line.new.self a.0 c.in_ok-count.count a.1.1 a.1.0
          (subst (λ b. Takes (line_marks b) c.read_heading.new.cursor c.end_line.new.self tt) (c.may_be.ensures a.0 a.1.1) h));
      last = subst (λ l. IsLastOf is_below (λ (p : PointRow). p.key) l (last_key l)) (sym c.new-kept.ensures) (λ k. refl);
      cut = cut_behind h.read.given c.end_line.new.self.rest (sym (ap (list_all is_cut) h.read.split)
          ∙ cut_behind a.1.0.read.given c.read_heading.new.cursor.rest (sym (ap (list_all is_cut) a.1.0.read.split) ∙ c.requires));
    }

pub read_point-requires : goal.read_point-requires
read_point-requires c = c.points.invariant.cut

pub returns-in_err-point : goal.returns-in_err-point
returns-in_err-point c =
    let l = c.points in
    let g = l.invariant.goes in
    let last = subst (λ o. IsLastOf is_below (λ (p : PointRow). p.key) l.kept o) (sym (c.last_key.ensures ∙ ap last_key c.as_slice.ensures)) l.invariant.last in
    let less =
    more PointRow (each c.args.counters) (codes "points") may_be (section c.args.counters) c.len.result l.kept c.wants_more.result c.in_ok-count.count
    c.args.cursor.now l.cursor g c.len.ensures c.wants_more.ensures
    c.points-test.true in
    let p = err_from_is_err_and c.from_residual-in_err-point.result c.from_residual-in_err-point.ensures.1 in
    rw (p.1, p.2) (next_halts PointRow (each c.args.counters) (codes "points") may_be (section c.args.counters) (alike c.args.counters) some_point
    (apart_rows c.args.counters) c.args.cursor.now l.cursor _ c.in_ok-count.count l.kept _ g less
    (c.in_err-point.ensures l.kept last))

pub points-preserved : goal.points-preserved
points-preserved c =
    let l = c.points in
    let g = l.invariant.goes in
    let last = subst (λ o. IsLastOf is_below (λ (p : PointRow). p.key) l.kept o) (sym (c.last_key.ensures ∙ ap last_key c.as_slice.ensures)) l.invariant.last in
    let less =
    more PointRow (each c.args.counters) (codes "points") may_be (section c.args.counters) c.len.result l.kept c.wants_more.result c.in_ok-count.count
    c.args.cursor.now l.cursor g c.len.ensures c.wants_more.ensures
    c.points-test.true in
    let r = c.in_ok-point.ensures l.kept last in
    let pushed = c.in_ok-push.ensures.ok ∙ ap (λ x. l.kept ++ x ∷ []) r.1.1 in
    record {
      goes = subst (λ k. Goes PointRow (each c.args.counters) (codes "points") may_be (section c.args.counters) c.args.cursor.now c.read_point.new.cursor
          c.in_ok-count.count k) (sym pushed)
          (one_more PointRow (each c.args.counters) (codes "points") may_be (section c.args.counters) c.args.cursor.now l.cursor c.read_point.new.cursor
          c.in_ok-count.count l.kept r.0 g less r.1.0);
      last = subst (λ k. IsLastOf is_below (λ (p : PointRow). p.key) k (last_key k)) (sym pushed)
          (subst (λ o. IsLastOf is_below (λ (p : PointRow). p.key) (l.kept ++ r.0 ∷ []) o) (sym (last_added l.kept r.0))
          (last_of_more is_below (λ (p : PointRow). p.key) below_passes l.kept r.0
          (point_stood c.args.counters l.kept r.0 l.cursor c.read_point.new.cursor r.1.0)));
      cut = cut_behind r.1.0.read.given c.read_point.new.cursor.rest (sym (ap (list_all is_cut) r.1.0.read.split) ∙ l.invariant.cut);
    }

pub points-smaller : goal.points-smaller
points-smaller c =
    let l = c.points in
    let last = subst (λ o. IsLastOf is_below (λ (p : PointRow). p.key) l.kept o) (sym (c.last_key.ensures ∙ ap last_key c.as_slice.ensures)) l.invariant.last in
    let r = c.in_ok-point.ensures l.kept last in
    shorter (row (each c.args.counters) (0, l.kept)) r.0 (row_some (each c.args.counters) (0, l.kept) r.0) l.cursor c.read_point.new.cursor r.1.0

pub returns : goal.returns
returns c =
    let l = c.points in (
      l.kept,
      (
        ends PointRow (each c.args.counters) (codes "points") may_be (section c.args.counters) (alike c.args.counters) some_point c.args.cursor.now l.cursor
            c.in_ok-count.count l.kept c.len.result c.wants_more.result l.invariant.goes
            c.len.ensures c.wants_more.ensures c.points-test.false,
        refl,
      ),
    )
