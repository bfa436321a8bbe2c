use Rattle.std.proofs.Common.{◌≡◌, ◌≤◌, ◌<◌, ◌+◌, ◌-◌, ◌/◌, ◌^◌, ◌++◌, vec_len, vec_capacity}
use Rattle.circuit_run.specs.Digits.{digits}
use Rattle.piece_text.proofs.digit.put_digits.Given as goal

abbrev pub invariant-loop-above : goal.invariant-loop-above
invariant-loop-above l = record {
  items : l.out.items ≡ l.fn.out.items ++ digits l.base l.above (l.number / l.base ^ (l.count - l.above));
  power : l.above < l.count → l.power ≡ l.base ^ (l.count - 1 - l.above);
  room : vec_len l.out + (l.count - l.above) ≤ vec_capacity l.out;
  capacity : vec_capacity l.fn.out ≤ vec_capacity l.out;
}
