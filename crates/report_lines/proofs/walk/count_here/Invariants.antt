use Rattle.std.proofs.Common.{◌≡◌, ◌-◌, ◌≤◌, ◌++◌, length, map, take, drop}
use Rattle.report_text.specs.Tables.{seen_point}
use Rattle.report_lines.specs.Walks.{points_behind, points_here}
use Rattle.report_lines.proofs.walk.count_here.Given as goal

abbrev pub invariant-points : goal.invariant-points
invariant-points l = record {
  within : l.at ≤ length l.points;
  here : map seen_point (take l.at l.points) ++ points_here l.line (map seen_point (drop l.at l.points)) ≡ points_here l.line (map seen_point l.points);
  behind : points_behind l.line (map seen_point (drop l.at l.points)) ≡ points_behind l.line (map seen_point l.points);
}

abbrev pub decreases-points : goal.decreases-points
decreases-points l = length l.points - l.at
