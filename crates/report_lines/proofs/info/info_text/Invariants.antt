use Rattle.std.proofs.Common.{◌≡◌, ◌++◌, take}
use Rattle.std.specs.List.{flat_map}
use Rattle.report_text.specs.Tables.{seen_table}
use Rattle.report_lines.specs.Walks.{table_text}
use Rattle.report_lines.proofs.info.info_text.Given as goal

abbrev pub invariant-files : goal.invariant-files
invariant-files l = l.text.items ≡ l.initial.text.items ++ flat_map (λ t. table_text (seen_table t)) (take l.table-index l.tables)
