use Rattle.std.proofs.Common.{◌≡◌, ◌==◌, ℕ, ◌≤◌, ◌<◌, false, length, slice_index}
use Rattle.cov_report.proofs.base_name.base_name.Given as goal

abbrev pub invariant-bytes : goal.invariant-bytes
invariant-bytes l = record {
  passed : (k : ℕ) → l.from ≤ k → k < length l.name → (slice_index l.name k == 47) ≡ false;
  within : l.from ≤ length l.name;
}

abbrev pub decreases-bytes : goal.decreases-bytes
decreases-bytes l = l.from
