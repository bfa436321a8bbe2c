use Rattle.std.proofs.Common.{◌≡◌, false, drop}
use Rattle.vlog_lexer.specs.Texts.{quoted_length}
use Rattle.vlog_lexer.proofs.TextLemmas.{behind}
use Rattle.vlog_lexer.proofs.quoted.quoted_len.Given as goal

abbrev pub invariant-loop-at : goal.invariant-loop-at
invariant-loop-at l = behind l.at (quoted_length l.taken (drop l.at l.text)) ≡ quoted_length false l.text
