use Rattle.std.proofs.Common.{◌≡◌, ◌+◌, ◌≤◌, drop}
use Rattle.report_text.specs.Tables.{seen_tables}
use Rattle.report_lines.specs.Walks.{all_counted, all_reached}
use Rattle.report_lines.proofs.total.total_text.Given as goal

abbrev pub invariant-files : goal.invariant-files
invariant-files l = record {
  within : l.part ≤ l.whole;
  part : l.part + all_reached l.minimum (seen_tables (drop l.table-index l.tables)) ≡ all_reached l.minimum (seen_tables l.tables);
  whole : l.whole + all_counted (seen_tables (drop l.table-index l.tables)) ≡ all_counted (seen_tables l.tables);
}
