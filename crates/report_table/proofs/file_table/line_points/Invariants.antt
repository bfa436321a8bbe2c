use Rattle.std.proofs.Common.{◌≡◌, ◌++◌, drop}
use Rattle.std.specs.List.{flat_map}
use Rattle.report_table.specs.FileTables.{numbers_of, placed_in, seen_placed}
use Rattle.report_table.specs.Seen.{seen_points}
use Rattle.report_table.proofs.file_table.line_points.Given as goal

abbrev pub invariant-lines : goal.invariant-lines
invariant-lines l = seen_placed l.placed.items ++ flat_map (placed_in (seen_points l.points)) (numbers_of (drop l.line-index l.lines))
    ≡ flat_map (placed_in (seen_points l.points)) (numbers_of l.lines)
