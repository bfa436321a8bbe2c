use Rattle.std.proofs.Common.{◌≡◌, ◌++◌, map}
use Rattle.report_text.specs.Tables.{seen_tables, table_of}
use Rattle.report_table.specs.Seen.{names_in, seen_points}
use Rattle.report_table.proofs.all_tables.named_tables.Given as goal

abbrev pub invariant-files : goal.invariant-files
invariant-files l = seen_tables l.tables.items ++ map (table_of (seen_points l.points)) (names_in l.name-iterator)
    ≡ map (table_of (seen_points l.points)) (names_in l.groups.first.entries)
