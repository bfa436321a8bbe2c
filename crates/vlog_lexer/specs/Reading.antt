-- A text as a sequence of pieces, and what reading it gives.
use Rattle.std.specs.Prelude.{◌≡◌, ℕ, ◌+◌, ◌<◌, List, [], ◌∷◌, ◌++◌, length, take, drop, map, reverse, None, Some, Result, Ok, Err}
use Rattle.cov_types.specs.declared.limit.LimitName.{LimitName}
use Rattle.cov_types.specs.declared.place.Place.{Place}
use Rattle.cov_types.specs.declared.pragma.Pragma.{Pragma}
use Rattle.vlog_lexer.specs.Faults.{fault_at}
use Rattle.vlog_lexer.specs.Limits.{limit_passed}
use Rattle.vlog_lexer.specs.Pieces.{front_of}
use Rattle.vlog_lexer.specs.Places.{place_after}
use Rattle.vlog_lexer.specs.declared.fault.LexFault.{LexFault}
use Rattle.vlog_lexer.specs.declared.fault.LexFault.TheVariants as fault
use Rattle.vlog_lexer.specs.declared.piece.Meaning.{Meaning}
use Rattle.vlog_lexer.specs.declared.piece.Meaning.TheVariants as m
use Rattle.vlog_lexer.specs.declared.piece.Piece.{Piece}
use Rattle.vlog_lexer.specs.declared.piece.Refusal.{Refusal}
use Rattle.vlog_tokens.specs.declared.token.Token.{Token}
use Rattle.vlog_tokens.specs.declared.token.TokenKind.{TokenKind}
use Rattle.vlog_tokens.specs.declared.token_list.TokenList.{TokenList}

-- from byte n to byte m the text is these pieces, each of them what begins at its place
abbrev pub Spans : List ℕ → ℕ → List Piece → ℕ → Type 0
Spans text n [] m = n ≡ m
Spans text n (piece ∷ pieces) m = (front_of (drop n text) ≡ Ok piece) × Spans text (n + piece.len) pieces m

-- the place of a byte of the text
abbrev pub place_at : ℕ → List ℕ → ℕ → Place
place_at file text n = place_after file (take n text)

abbrev pub token_of : Place → Meaning → List Token
token_of place m.Blank = []
token_of place (m.Comment kind) = []
token_of place (m.Token kind) = record { place = place; what = kind } ∷ []

abbrev pub pragma_of : Place → Meaning → List Pragma
pragma_of place m.Blank = []
pragma_of place (m.Comment kind) = record { place = place; what = kind } ∷ []
pragma_of place (m.Token kind) = []

-- the tokens among the pieces from byte n on, each with its place
abbrev pub tokens_of : ℕ → List ℕ → ℕ → List Piece → List Token
tokens_of file text n [] = []
tokens_of file text n (piece ∷ pieces) = token_of (place_at file text n) piece.what ++ tokens_of file text (n + piece.len) pieces

-- the coverage comments among them
abbrev pub pragmas_of : ℕ → List ℕ → ℕ → List Piece → List Pragma
pragmas_of file text n [] = []
pragmas_of file text n (piece ∷ pieces) = pragma_of (place_at file text n) piece.what ++ pragmas_of file text (n + piece.len) pieces

-- what tokens are, the latest first
abbrev pub latest : List Token → List TokenKind
latest tokens = reverse (map (λ token. token.what) tokens)

-- none of the tokens passes a limit, each counted with those before it
abbrev pub IsWithinLimits : List Token → Type 0
IsWithinLimits tokens = (n : ℕ) → limit_passed (latest (take n tokens)) ≡ None

-- Up to byte at, the text is pieces of which no token passes a limit.
pub record ReadsTo (file : ℕ) (text : List ℕ) (pieces : List Piece) (at : ℕ) : Type 0 where
  pub spans : Spans text 0 pieces at
  pub limits : IsWithinLimits (tokens_of file text 0 pieces)

-- The text is a sequence of pieces, and these are its tokens and coverage comments.
pub record IsListOf (file : ℕ) (text : List ℕ) (found : TokenList) : Type 0 where
  pub pieces : List Piece
  pub whole : ReadsTo file text pieces (length text)
  pub tokens : found.tokens ≡ tokens_of file text 0 pieces
  pub pragmas : found.pragmas ≡ pragmas_of file text 0 pieces

-- At the first place from which no piece can be taken, this is wrong.
pub record IsFlawOf (file : ℕ) (text : List ℕ) (found : LexFault) : Type 0 where
  pub pieces : List Piece
  pub at : ℕ
  pub refusal : Refusal
  pub before : ReadsTo file text pieces at
  pub inside : at < length text
  pub refused : front_of (drop at text) ≡ Err refusal
  pub is : found ≡ fault_at refusal.flaw (place_at file text (at + refusal.offset))

-- The token that begins at a place passes this limit, and none before it passes one.
pub record IsLimitOf (file : ℕ) (text : List ℕ) (name : LimitName) : Type 0 where
  pub pieces : List Piece
  pub at : ℕ
  pub piece : Piece
  pub before : ReadsTo file text pieces at
  pub next : front_of (drop at text) ≡ Ok piece
  pub passed : limit_passed (latest (tokens_of file text 0 (pieces ++ piece ∷ []))) ≡ Some name

-- This is the first fault of the text; want of memory is no fault of a text.
abbrev pub IsFaultOf : ℕ → List ℕ → LexFault → Type 0
IsFaultOf file text (fault.Limit name) = IsLimitOf file text name
IsFaultOf file text fault.NoMemory = ⊥
IsFaultOf file text found = IsFlawOf file text found

-- What reading the text of a file gives.
abbrev pub IsReadingOf : ℕ → List ℕ → Result TokenList LexFault → Type 0
IsReadingOf file text (Ok found) = IsListOf file text found
IsReadingOf file text (Err found) = IsFaultOf file text found

-- The same, unless memory ran out.
abbrev pub Answers : ℕ → List ℕ → Result TokenList LexFault → Type 0
Answers file text (Ok found) = IsListOf file text found
Answers file text (Err fault.NoMemory) = Unit {0}
Answers file text (Err found) = IsFaultOf file text found

-- The result is this one, unless memory ran out.
abbrev pub IsUnlessNoMemory : Result TokenList LexFault → Result TokenList LexFault → Type 0
IsUnlessNoMemory (Ok found) other = Ok found ≡ other
IsUnlessNoMemory (Err fault.NoMemory) other = Unit {0}
IsUnlessNoMemory (Err found) other = Err found ≡ other
