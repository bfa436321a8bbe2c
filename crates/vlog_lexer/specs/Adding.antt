-- Adding one more piece to what is read.
use Rattle.std.specs.Prelude.{◌≡◌, List, ◌∷◌, None, Some}
use Rattle.vlog_lexer.specs.Limits.{limit_passed}
use Rattle.vlog_lexer.specs.declared.fault.LexFault.{LexFault}
use Rattle.vlog_lexer.specs.declared.fault.LexFault.TheVariants as fault
use Rattle.vlog_lexer.specs.declared.piece.Meaning.{Meaning}
use Rattle.vlog_lexer.specs.declared.piece.Meaning.TheVariants as m
use Rattle.vlog_tokens.specs.declared.token.TokenKind.{TokenKind}

-- behind these tokens, the latest first, a piece passes no limit
abbrev pub StaysWithin : List TokenKind → Meaning → Type 0
StaysWithin before m.Blank = Unit {0}
StaysWithin before (m.Comment kind) = Unit {0}
StaysWithin before (m.Token kind) = limit_passed (kind ∷ before) ≡ None

-- a piece is refused for the limit that it passes, or for want of memory
abbrev pub Refuses : List TokenKind → Meaning → LexFault → Type 0
Refuses before what fault.NoMemory = Unit {0}
Refuses before (m.Token kind) (fault.Limit name) = limit_passed (kind ∷ before) ≡ Some name
Refuses before what found = ⊥
