use Rattle.std.proofs.Common.{◌≡◌, drop}
use Rattle.vlog_lexer.specs.Comments.{block_length}
use Rattle.vlog_lexer.proofs.TextLemmas.{behind}
use Rattle.vlog_lexer.proofs.comment.block_len.Given as goal

abbrev pub invariant-loop-at : goal.invariant-loop-at
invariant-loop-at l = behind l.at (block_length (drop l.at l.text)) ≡ block_length l.text
