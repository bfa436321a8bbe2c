use Rattle.std.proofs.Common.{◌≡◌, ◌≤◌, ◌-◌, ◌^◌}
use Rattle.std.specs.Prelude.{◌⊎◌}
use Rattle.piece_text.proofs.digit.digit_count.Given as goal

abbrev pub invariant-loop-count : goal.invariant-loop-count
invariant-loop-count l = record {
  power : l.power ≡ l.base ^ (l.count - 1);
  least : (l.count ≡ 1) ⊎ (l.base ^ (l.count - 1) ≤ l.number);
  some : 1 ≤ l.count;
}
