-- Why lines and columns are counted from 1.
use Rattle.std.proofs.Common.{ℕ, ◌+◌, List, [], ◌∷◌, ◌++◌, sym, subst, arith}
use Rattle.cov_types.specs.declared.place.Place.{Place}
use Rattle.vlog_lexer.specs.Faults.{fault_at}
use Rattle.vlog_lexer.specs.Origins.{IsFromOne, FaultIsFromOne, AreFromOne, TokensFromOne, FaultFromOne}
use Rattle.vlog_lexer.specs.Places.{place_after, line_after, column_after}
use Rattle.vlog_lexer.specs.Reading.{IsFlawOf, place_at, token_of, tokens_of}
use Rattle.vlog_lexer.specs.declared.fault.LexFault.{LexFault}
use Rattle.vlog_lexer.specs.declared.fault.LexFault.TheVariants as fault
use Rattle.vlog_lexer.specs.declared.piece.Flaw.{Flaw}
use Rattle.vlog_lexer.specs.declared.piece.Flaw.TheVariants as flaw
use Rattle.vlog_lexer.specs.declared.piece.Meaning.{Meaning}
use Rattle.vlog_lexer.specs.declared.piece.Meaning.TheVariants as m
use Rattle.vlog_lexer.specs.declared.piece.Piece.{Piece}
use Rattle.vlog_tokens.specs.declared.token.Token.{Token}

place_from : (file : ℕ) (before : List ℕ) → IsFromOne (place_after file before)
unfolding place_after line_after column_after
place_from file before = record { line = omega arith; column = omega arith }

fault_from : (f : Flaw) (place : Place) → IsFromOne place → FaultIsFromOne (fault_at f place)
fault_from flaw.BadByte place is = is
fault_from flaw.BadNumber place is = is
fault_from flaw.NumberTooWide place is = is
fault_from flaw.OpenComment place is = is
fault_from flaw.OpenString place is = is
fault_from flaw.Directive place is = is
fault_from flaw.ReservedName place is = is

flaw_from : (file : ℕ) (text : List ℕ) (found : LexFault) → IsFlawOf file text found → FaultIsFromOne found
flaw_from file text found is =
    subst FaultIsFromOne (sym is.is) (fault_from is.refusal.flaw (place_at file text (is.at + is.refusal.offset)) (place_from file _))

pub fault_from_one : FaultFromOne
fault_from_one file text (fault.BadByte place) is = flaw_from file text (fault.BadByte place) is
fault_from_one file text (fault.BadNumber place) is = flaw_from file text (fault.BadNumber place) is
fault_from_one file text (fault.NumberTooWide place) is = flaw_from file text (fault.NumberTooWide place) is
fault_from_one file text (fault.OpenComment place) is = flaw_from file text (fault.OpenComment place) is
fault_from_one file text (fault.OpenString place) is = flaw_from file text (fault.OpenString place) is
fault_from_one file text (fault.Directive place) is = flaw_from file text (fault.Directive place) is
fault_from_one file text (fault.ReservedName place) is = flaw_from file text (fault.ReservedName place) is
fault_from_one file text (fault.Limit name) is = tt
fault_from_one file text fault.NoMemory is = tt

from_append : (xs ys : List Token) → AreFromOne xs → AreFromOne ys → AreFromOne (xs ++ ys)
from_append [] ys one two = two
from_append (x ∷ xs) ys one two = (one.0, from_append xs ys one.1 two)

one_token : (place : Place) (meaning : Meaning) → IsFromOne place → AreFromOne (token_of place meaning)
one_token place m.Blank is = tt
one_token place (m.Comment kind) is = tt
one_token place (m.Token kind) is = (is, tt)

all_from : (file : ℕ) (text : List ℕ) (n : ℕ) (pieces : List Piece) → AreFromOne (tokens_of file text n pieces)
all_from file text n [] = tt
all_from file text n (piece ∷ pieces) =
    from_append (token_of (place_at file text n) piece.what) (tokens_of file text (n + piece.len) pieces)
    (one_token (place_at file text n) piece.what (place_from file _)) (all_from file text (n + piece.len) pieces)

pub tokens_from_one : TokensFromOne
tokens_from_one file text found is = subst AreFromOne (sym is.tokens) (all_from file text 0 is.pieces)
