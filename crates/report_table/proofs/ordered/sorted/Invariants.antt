use Rattle.std.proofs.Common.{◌≡◌, ◌≤◌, length, drop}
use Rattle.std.specs.FinMap.{entries, from_entries}
use Rattle.std.specs.Ordering.{nat_cmp}
use Rattle.std.specs.Cmp.Lexicographic.{slice_cmp}
use Rattle.report_table.specs.Seen.{seen_sorted}
use Rattle.report_table.proofs.ordered.sorted.Given as goal

abbrev pub invariant-keys : goal.invariant-keys
invariant-keys l = record {
  so_far : seen_sorted l.sorted.entries ≡ entries {R = slice_cmp nat_cmp} (from_entries (drop l.left l.merged));
  within : l.left ≤ length l.merged;
}

abbrev pub decreases-keys : goal.decreases-keys
decreases-keys l = l.left
