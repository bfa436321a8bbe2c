-- Operators and other marks (IEEE 1364-2005, 3.4 and annex A), by how many bytes they have.
use Rattle.std.specs.Prelude.{ℕ, List, [], ◌∷◌, ◌++◌, Option, Some, None, codes, nat_eq, if◌then◌else◌}
use Rattle.std.specs.List.{starts_with}
use Rattle.vlog_words.specs.Words.{Table}
use Rattle.vlog_tokens.specs.declared.token.TokenKind.{TokenKind}
use Rattle.vlog_tokens.specs.declared.token.TokenKind.TheVariants as k

-- operators of three bytes
abbrev pub of_three : Table TokenKind
of_three =
    (codes "===", k.CaseEqual) ∷
    (codes "!==", k.CaseNotEqual) ∷
    (codes "<<<", k.ArithmeticShiftLeft) ∷
    (codes ">>>", k.ArithmeticShiftRight) ∷
    []

-- operators and marks of two bytes
abbrev pub of_two : Table TokenKind
of_two =
    (codes "~&", k.TildeAmpersand) ∷
    (codes "~|", k.TildePipe) ∷
    (codes "~^", k.TildeCaret) ∷
    (codes "^~", k.CaretTilde) ∷
    (codes "&&", k.LogicalAnd) ∷
    (codes "||", k.LogicalOr) ∷
    (codes "==", k.Equal) ∷
    (codes "!=", k.NotEqual) ∷
    (codes "<=", k.LessOrEqual) ∷
    (codes ">=", k.GreaterOrEqual) ∷
    (codes "<<", k.ShiftLeft) ∷
    (codes ">>", k.ShiftRight) ∷
    (codes "+:", k.PlusColon) ∷
    (codes "-:", k.MinusColon) ∷
    []

-- operators of one byte
abbrev pub operators_of_one : Table TokenKind
operators_of_one =
    (codes "+", k.Plus) ∷
    (codes "-", k.Minus) ∷
    (codes "*", k.Star) ∷
    (codes "/", k.Slash) ∷
    (codes "%", k.Percent) ∷
    (codes "!", k.Exclamation) ∷
    (codes "~", k.Tilde) ∷
    (codes "&", k.Ampersand) ∷
    (codes "|", k.Pipe) ∷
    (codes "^", k.Caret) ∷
    (codes "<", k.Less) ∷
    (codes ">", k.Greater) ∷
    (codes "?", k.Question) ∷
    []

-- marks of one byte
abbrev pub marks_of_one : Table TokenKind
marks_of_one =
    (codes "(", k.OpenParen) ∷
    (codes ")", k.CloseParen) ∷
    (codes "[", k.OpenBracket) ∷
    (codes "]", k.CloseBracket) ∷
    (codes "{", k.OpenBrace) ∷
    (codes "}", k.CloseBrace) ∷
    (codes ",", k.Comma) ∷
    (codes ";", k.Semicolon) ∷
    (codes ":", k.Colon) ∷
    (codes ".", k.Dot) ∷
    (codes "#", k.Hash) ∷
    (codes "@", k.At) ∷
    (codes "=", k.EqualSign) ∷
    []

-- operators and marks of one byte
abbrev pub of_one : Table TokenKind
of_one = operators_of_one ++ marks_of_one

-- the first of the table whose spelling begins the text
abbrev pub first_at : Table TokenKind → List ℕ → Option TokenKind
first_at [] text = None
first_at (entry ∷ table) text = if starts_with nat_eq text entry.0 then Some entry.1 else first_at table text

abbrev pub with_length : ℕ → Option TokenKind → Option (TokenKind × ℕ) → Option (TokenKind × ℕ)
with_length n None shorter = shorter
with_length n (Some kind) shorter = Some (kind, n)

-- the longest operator or mark that begins the text, and how many bytes it has
unfoldable pub symbol_of : List ℕ → Option (TokenKind × ℕ)
symbol_of text =
    with_length 3 (first_at of_three text) (
    with_length 2 (first_at of_two text) (
    with_length 1 (first_at of_one text) None))
