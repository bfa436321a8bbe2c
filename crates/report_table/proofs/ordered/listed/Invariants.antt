use Rattle.std.proofs.Common.{◌≡◌, ◌++◌}
use Rattle.report_table.specs.Seen.{AreRead, seen_points, seen_sorted}
use Rattle.report_table.proofs.ordered.listed.Given as goal

abbrev pub invariant-loop-key : goal.invariant-loop-key
invariant-loop-key l = record {
  seen : seen_points l.points.items ++ seen_sorted l.key-iterator ≡ seen_sorted l.sorted.entries;
  read : AreRead l.points.items;
}
