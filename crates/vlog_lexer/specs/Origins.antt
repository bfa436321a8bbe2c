-- Lines and columns are counted from 1, in tokens and in faults (docs/formats.md, "Tokens").
use Rattle.std.specs.Prelude.{ℕ, ◌≤◌, List, [], ◌∷◌, Ok, Err}
use Rattle.cov_types.specs.declared.place.Place.{Place}
use Rattle.vlog_lexer.specs.Reading.{IsReadingOf}
use Rattle.vlog_lexer.specs.declared.fault.LexFault.{LexFault}
use Rattle.vlog_lexer.specs.declared.fault.LexFault.TheVariants as fault
use Rattle.vlog_tokens.specs.declared.token.Token.{Token}
use Rattle.vlog_tokens.specs.declared.token_list.TokenList.{TokenList}

pub record IsFromOne (place : Place) : Type 0 where
  pub line : 1 ≤ place.line
  pub column : 1 ≤ place.column

-- the place that a fault names, where it names one
abbrev pub FaultIsFromOne : LexFault → Type 0
FaultIsFromOne (fault.BadByte place) = IsFromOne place
FaultIsFromOne (fault.BadNumber place) = IsFromOne place
FaultIsFromOne (fault.NumberTooWide place) = IsFromOne place
FaultIsFromOne (fault.OpenComment place) = IsFromOne place
FaultIsFromOne (fault.OpenString place) = IsFromOne place
FaultIsFromOne (fault.Directive place) = IsFromOne place
FaultIsFromOne (fault.ReservedName place) = IsFromOne place
FaultIsFromOne (fault.Limit name) = Unit {0}
FaultIsFromOne fault.NoMemory = Unit {0}

-- the places of all tokens
abbrev pub AreFromOne : List Token → Type 0
AreFromOne [] = Unit {0}
AreFromOne (token ∷ tokens) = IsFromOne token.place × AreFromOne tokens

-- the tokens of a text stand at such places
abbrev pub TokensFromOne : Type 0
TokensFromOne = (file : ℕ) (text : List ℕ) (found : TokenList) → IsReadingOf file text (Ok found) → AreFromOne found.tokens

-- and so does its fault
abbrev pub FaultFromOne : Type 0
FaultFromOne = (file : ℕ) (text : List ℕ) (found : LexFault) → IsReadingOf file text (Err found) → FaultIsFromOne found
