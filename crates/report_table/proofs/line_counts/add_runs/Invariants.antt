use Rattle.std.proofs.Common.{◌≡◌, ℕ, drop}
use Rattle.std.specs.BTreeMap.{get}
use Rattle.std.specs.List.{flat_map}
use Rattle.std.specs.Ordering.{nat_cmp}
use Rattle.report_text.specs.Items.{lines_of_range}
use Rattle.report_table.specs.LineCounts.{offered, has_line}
use Rattle.report_table.proofs.line_counts.add_runs.Given as goal

abbrev pub invariant-runs : goal.invariant-runs
invariant-runs l = (line : ℕ) → offered (get nat_cmp l.counts line) (has_line line (flat_map lines_of_range (drop l.run-index l.runs))) l.count
    ≡ offered (get nat_cmp l.initial.counts line) (has_line line (flat_map lines_of_range l.runs)) l.count
