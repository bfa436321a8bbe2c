use Rattle.std.proofs.Common.{◌≡◌, ◌≤◌, ◌++◌, drop, map}
use Rattle.report_text.specs.Tables.{seen_point}
use Rattle.report_lines.specs.Walks.{branches_from}
use Rattle.report_lines.proofs.info.push_branches_at.Given as goal

abbrev pub invariant-points : goal.invariant-points
invariant-points l = record {
  within : l.number ≤ l.point-index;
  text : l.text.items ++ branches_from l.number l.line (map seen_point (drop l.point-index l.points))
      ≡ l.initial.text.items ++ branches_from 0 l.line (map seen_point l.points);
}
