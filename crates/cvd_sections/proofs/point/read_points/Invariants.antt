use Rattle.std.proofs.Common.{length}
use Rattle.std.specs.Prelude.{codes}
use Rattle.design_tree.specs.declared.instrumented.PointRow.{PointRow}
use Rattle.cvd_text.specs.Sections.{is_below}
use Rattle.cvd_sections.specs.Keys.{AreCut, last_key}
use Rattle.cvd_sections.specs.Places.{IsLastOf}
use Rattle.cvd_sections.proofs.RowSections.{Goes}
use Rattle.cvd_sections.proofs.Points.{each, may_be, section}
use Rattle.cvd_sections.proofs.point.read_points.Given as goal

abbrev pub invariant-points : goal.invariant-points
invariant-points l = record {
  goes : Goes PointRow (each l.counters) (codes "points") may_be (section l.counters) l.fn.cursor l.cursor l.count l.kept;
  last : IsLastOf is_below (λ (p : PointRow). p.key) l.kept (last_key l.kept);
  cut : AreCut l.cursor.rest;
}

abbrev pub decreases-points : goal.decreases-points
decreases-points l = length l.cursor.rest
