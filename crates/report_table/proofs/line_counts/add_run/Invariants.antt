use Rattle.std.proofs.Common.{◌≡◌, ℕ, ◌+◌, ◌-◌}
use Rattle.std.specs.BTreeMap.{get}
use Rattle.std.specs.List.{range_with_len}
use Rattle.std.specs.Ordering.{nat_cmp}
use Rattle.report_text.specs.Items.{lines_of_range}
use Rattle.report_table.specs.LineCounts.{offered, has_line}
use Rattle.report_table.proofs.line_counts.add_run.Given as goal

abbrev pub invariant-lines : goal.invariant-lines
invariant-lines l = (q : ℕ) → offered (get nat_cmp l.counts q) (has_line q (range_with_len l.line (l.run.to + 1 - l.line))) l.count
    ≡ offered (get nat_cmp l.initial.counts q) (has_line q (lines_of_range l.run)) l.count
