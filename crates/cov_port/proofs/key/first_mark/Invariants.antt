use Rattle.std.proofs.Common.{◌≡◌, ℕ, ◌-◌, ◌<◌, ◌≤◌, false, length, slice_index}
use Rattle.cov_types.specs.Key.{is_mark}
use Rattle.cov_port.proofs.key.first_mark.Given as goal

abbrev pub invariant-blocks-2 : goal.invariant-blocks-2
invariant-blocks-2 l = record {
  within : l.at ≤ length l.bytes;
  passed : (k : ℕ) → k < l.at → is_mark (slice_index l.bytes k) ≡ false;
}

abbrev pub decreases-blocks-2 : goal.decreases-blocks-2
decreases-blocks-2 l = length l.bytes - l.at
