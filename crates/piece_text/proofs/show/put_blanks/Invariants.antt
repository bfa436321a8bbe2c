use Rattle.std.proofs.Common.{◌≡◌, ◌≤◌, ◌+◌, ◌-◌, ◌++◌, replicate, vec_len, vec_capacity}
use Rattle.piece_text.proofs.show.put_blanks.Given as goal

abbrev pub invariant-loop-done : goal.invariant-loop-done
invariant-loop-done l = record {
  items : l.out.items ≡ l.fn.out.items ++ replicate l.done 32;
  room : vec_len l.out + (l.count - l.done) ≤ vec_capacity l.out;
  capacity : vec_capacity l.fn.out ≤ vec_capacity l.out;
}
