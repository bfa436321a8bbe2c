use Rattle.std.proofs.Common.{◌≡◌, ◌++◌}
use Rattle.report_table.specs.FileTables.{counted_in}
use Rattle.report_table.proofs.file_table.listed.Given as goal

abbrev pub invariant-loop-line : goal.invariant-loop-line
invariant-loop-line l = l.lines.items ++ counted_in l.line-iterator ≡ counted_in l.counts.entries
