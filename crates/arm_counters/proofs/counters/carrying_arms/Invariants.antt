use Rattle.std.proofs.Common.{◌≡◌, ℕ, ◌<◌, not, ◌&&◌, length}
use Rattle.mark_numbers.specs.Numbers.{is_set}
use Rattle.arm_rows.specs.Rows.{row_at}
use Rattle.arm_counters.specs.Needed.{is_no_arm}
use Rattle.arm_counters.proofs.counters.carrying_arms.Given as goal

abbrev pub invariant-loop-arm : goal.invariant-loop-arm
invariant-loop-arm l = record {
  many : length l.flags.items ≡ l.arm;
  each : (n : ℕ) → n < l.arm → is_set l.flags.items n ≡ (is_set l.marks n && not (is_no_arm (row_at l.rows n)));
}
