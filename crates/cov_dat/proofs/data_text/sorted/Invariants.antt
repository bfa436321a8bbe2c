use Rattle.std.proofs.Common.{◌≡◌, ◌≤◌, length, drop}
use Rattle.std.specs.FinMap.{entries, from_entries}
use Rattle.std.specs.Ordering.{nat_cmp}
use Rattle.std.specs.Cmp.Lexicographic.{slice_cmp}
use Rattle.cov_dat.specs.SortedView.{seen_sorted}
use Rattle.cov_dat.proofs.data_text.sorted.Given as goal

abbrev pub invariant-keys : goal.invariant-keys
invariant-keys l = record {
  so_far : seen_sorted l.sorted.entries ≡ entries {R = slice_cmp nat_cmp} (from_entries (drop l.left l.counts.entries));
  within : l.left ≤ length l.counts.entries;
}

abbrev pub decreases-keys : goal.decreases-keys
decreases-keys l = l.left
