use Rattle.std.proofs.Common.{◌≡◌, ◌≤◌, ◌+◌, drop}
use Rattle.std.specs.List.{find}
use Rattle.report_text.specs.Items.{is_badly_placed, line_entries}
use Rattle.report_table.specs.Placing.{capped}
use Rattle.report_table.specs.Seen.{seen_points}
use Rattle.report_table.proofs.placing.test_places.Given as goal

abbrev pub invariant-points : goal.invariant-points
invariant-points l = record {
  placed : find is_badly_placed (seen_points (drop l.point-index l.points)) ≡ find is_badly_placed (seen_points l.points);
  sum : capped (l.entries + line_entries (seen_points (drop l.point-index l.points))) ≡ capped (line_entries (seen_points l.points));
  within : l.entries ≤ 67108865;
}
