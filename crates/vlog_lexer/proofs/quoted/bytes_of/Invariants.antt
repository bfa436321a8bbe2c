use Rattle.std.proofs.Common.{◌≡◌, ◌-◌, ◌≤◌, drop, length}
use Rattle.vlog_lexer.specs.Texts.{bytes_of}
use Rattle.vlog_lexer.proofs.TextLemmas.{joined}
use Rattle.vlog_lexer.proofs.quoted.bytes_of.Given as goal

abbrev pub invariant-loop-at : goal.invariant-loop-at
invariant-loop-at l = record {
  within : l.at ≤ length l.text;
  read : joined l.bytes.items l.at (bytes_of (drop l.at l.text)) ≡ bytes_of l.text;
}

abbrev pub decreases-loop-at : goal.decreases-loop-at
decreases-loop-at l = length l.initial.text - l.at
