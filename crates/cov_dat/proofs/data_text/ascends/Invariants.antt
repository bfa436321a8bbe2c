use Rattle.std.proofs.Common.{◌≡◌, ◌≤◌, ◌-◌, true, length, drop}
use Rattle.std.specs.FinMap.{is_sorted}
use Rattle.std.specs.Ordering.{nat_cmp}
use Rattle.std.specs.Cmp.Lexicographic.{slice_cmp}
use Rattle.cov_dat.proofs.data_text.ascends.Given as goal

abbrev pub invariant-keys : goal.invariant-keys
invariant-keys l = record {
  rises : is_sorted (slice_cmp nat_cmp) (drop (l.left - 1) l.counts.entries) ≡ true;
  within : l.left ≤ length l.counts.entries;
}

abbrev pub decreases-keys : goal.decreases-keys
decreases-keys l = l.left
