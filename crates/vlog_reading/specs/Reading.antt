-- Reading from left to right: a parser gives what it found and the tokens after it, or nothing.
use Rattle.std.specs.Prelude.{◌≡◌, ℕ, Bool, if◌then◌else◌, [], ◌∷◌, Option, Some, None, Result, Ok, Err}
use Rattle.cov_types.specs.declared.place.Place.{Place}
use Rattle.vlog_tokens.specs.declared.token.TokenKind.{TokenKind}
use Rattle.vlog_tree.specs.declared.operator.BinaryOp.{BinaryOp}
use Rattle.vlog_grammar.specs.Tokens.{Tokens, infix_of}
use Rattle.vlog_reading.specs.declared.fault.ReadFault.{ReadFault}
use Rattle.vlog_reading.specs.declared.fault.ReadFault.TheVariants.{NoMemory, Syntax}
unfoldable pub use Rattle.vlog_reading.specs.Marks.{sees}

abbrev pub Parser : Type 0 → Type 0
Parser A = Tokens → Option (A × Tokens)

abbrev pub and_then : {A B : Type 0} → Option (A × Tokens) → (A → Parser B) → Option (B × Tokens)
and_then (Some p) f = f p.0 p.1
and_then None f = None

infixl 10 ◌>>=◌
abbrev pub ◌>>=◌ : {A B : Type 0} → Parser A → (A → Parser B) → Parser B
p >>= f = λ ts. and_then (p ts) f

infixl 10 ◌>>◌
abbrev pub ◌>>◌ : {A B : Type 0} → Parser A → Parser B → Parser B
p >> q = p >>= (λ _. q)

abbrev pub pure : {A : Type 0} → A → Parser A
pure a = λ ts. Some (a, ts)

abbrev pub refuse : {A : Type 0} → Parser A
refuse = λ ts. None

abbrev pub first_kind : Tokens → Option TokenKind
first_kind [] = None
first_kind (t ∷ ts) = Some t.what

abbrev pub rest_of : Tokens → Tokens
rest_of [] = []
rest_of (t ∷ ts) = ts

abbrev pub first_place : Tokens → Place
first_place [] = record { file = 0; line = 0; column = 0 }
first_place (t ∷ ts) = t.place

abbrev pub here : Parser Place
here = λ ts. Some (first_place ts, ts)

abbrev pub peek : Parser (Option TokenKind)
peek = λ ts. Some (first_kind ts, ts)

abbrev pub skip : Parser (Unit {0})
skip = λ ts. Some (tt, rest_of ts)

unfoldable pub after : TokenKind → Tokens → Tokens
after kind ts = if sees kind ts then rest_of ts else ts

-- takes a word or mark where it comes next, and says whether it did
abbrev pub eat : TokenKind → Parser Bool
eat kind = λ ts. Some (sees kind ts, after kind ts)

-- takes a word or mark, which has to come next
unfoldable pub expect : TokenKind → Parser (Unit {0})
expect kind ts = if sees kind ts then Some (tt, rest_of ts) else None

abbrev pub infix_at : Option TokenKind → Option (ℕ × BinaryOp)
infix_at (Some kind) = infix_of kind
infix_at None = None

unfoldable pub next_infix : Tokens → Option (ℕ × BinaryOp)
next_infix ts = infix_at (first_kind ts)

-- what a function that reads ensures: the parser's outcome, unless memory fails
abbrev pub Reads : {A : Type 0} → Option (A × Tokens) → Result A ReadFault → Tokens → Type 0
Reads outcome (Ok a) new = outcome ≡ Some (a, new)
Reads outcome (Err NoMemory) new = Unit {0}
Reads outcome (Err Syntax) new = outcome ≡ None

-- the same of what has no tokens after it
abbrev pub Answers : {A : Type 0} → Option A → Result A ReadFault → Type 0
Answers outcome (Ok a) = outcome ≡ Some a
Answers outcome (Err NoMemory) = Unit {0}
Answers outcome (Err Syntax) = outcome ≡ None
