use Rattle.std.proofs.Common.{◌≡◌, ◌++◌, drop, map}
use Rattle.report_text.specs.Tables.{placed_at}
use Rattle.report_table.specs.FileTables.{seen_placed}
use Rattle.report_table.specs.Seen.{seen_points}
use Rattle.report_table.proofs.file_table.push_points.Given as goal

abbrev pub invariant-points : goal.invariant-points
invariant-points l = seen_placed l.placed.items ++ map (placed_at l.line) (seen_points (drop l.point-index l.points)) ≡ seen_placed l.initial.placed.items
    ++ map (placed_at l.line) (seen_points l.points)
