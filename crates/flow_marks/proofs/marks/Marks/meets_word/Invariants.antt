use Rattle.std.proofs.Common.{◌≡◌, ◌<◌, ◌≤◌, ℕ, false}
use Rattle.flow_marks.specs.Sets.{has}
use Rattle.flow_marks.proofs.Kept.{bit_of}
use Rattle.flow_marks.proofs.marks.Marks.meets_word.Given as goal

abbrev pub invariant-loop-place : goal.invariant-loop-place
invariant-loop-place l = (c : ℕ) → l.span.place ≤ c → c < l.place → has l.self (bit_of l.span.var l.span.word c) ≡ false
