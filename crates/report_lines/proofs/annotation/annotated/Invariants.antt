use Rattle.std.proofs.Common.{◌≡◌, ◌+◌, ◌≤◌, ◌∷◌, ◌++◌, codes, length, map}
use Rattle.cov_port.specs.Lines.{lines_of}
use Rattle.report_text.specs.Tables.{seen_point}
use Rattle.report_lines.specs.Walks.{annotated_from}
use Rattle.report_lines.proofs.annotation.annotated.Given as goal

abbrev pub invariant-lines : goal.invariant-lines
invariant-lines l = record {
  within : l.number + length l.rest ≤ length l.source;
  points : length l.points ≤ length l.table.points.items;
  text : l.text.items ++ annotated_from l.minimum l.with_points (l.number + 1) l.lines (map seen_point l.points) (lines_of l.rest)
      ≡ 9 ∷ codes "// vcov annotation" ++ 10 ∷
      annotated_from l.minimum l.with_points 1 l.table.lines.items (map seen_point l.table.points.items) (lines_of l.source);
}

abbrev pub decreases-lines : goal.decreases-lines
decreases-lines l = length l.rest
