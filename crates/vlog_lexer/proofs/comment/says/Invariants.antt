use Rattle.std.proofs.Common.{◌≡◌, ◌≤◌, drop, length}
use Rattle.std.specs.Str.{bytes_eq}
use Rattle.vlog_lexer.specs.Comments.{squeezed}
use Rattle.vlog_lexer.proofs.comment.says.Given as goal

abbrev pub invariant-loop-at : goal.invariant-loop-at
invariant-loop-at l = record {
  within : l.said ≤ length l.words;
  same : bytes_eq (squeezed (drop l.at l.text)) (drop l.said l.words) ≡ bytes_eq (squeezed l.text) l.words;
}
