-- Tokens by their kinds (docs/formats.md, "Tokens").
use Rattle.std.specs.Prelude.{◌≡◌, ℕ, List, ◌∷◌, Option, Some, None, codes, if◌then◌else◌, slice_get}
use Rattle.std.specs.Str.{bytes_eq}
use Rattle.cov_types.specs.declared.place.Place.{Place}
use Rattle.vlog_tokens.specs.declared.token.Token.{Token}
use Rattle.vlog_tokens.specs.declared.token.TokenKind.{TokenKind}
use Rattle.vlog_tokens.specs.declared.token.TokenKind.TheVariants as k
use Rattle.vlog_tree.specs.declared.operator.UnaryOp.{UnaryOp}
use Rattle.vlog_tree.specs.declared.operator.UnaryOp.TheVariants as unary
use Rattle.vlog_tree.specs.declared.operator.BinaryOp.{BinaryOp}
use Rattle.vlog_tree.specs.declared.operator.BinaryOp.TheVariants as binary
use Rattle.vlog_tree.specs.declared.operator.SystemCall.{SystemCall}
use Rattle.vlog_tree.specs.declared.operator.SystemCall.TheVariants as call

abbrev pub Tokens : Type 0
Tokens = List Token

-- a token of a kind at a place
abbrev pub at : Place → TokenKind → Token
at p kind = record { place = p; what = kind }

-- No token of this kind comes next.
abbrev pub NotNext : TokenKind → Tokens → Type 0
NotNext kind ts = (p : Place) (rest : Tokens) → ts ≡ at p kind ∷ rest → ⊥

-- The place is that of one of the tokens.
abbrev pub IsPlaceOf : Tokens → Place → Type 0
IsPlaceOf ts p = (n : ℕ) × (t : Token) × (slice_get ts n ≡ Some t) × (p ≡ t.place)

-- The level of a binary operator, and the operator. The lowest level is 2; 1 is that of `?`.
--   ||   &&   |   ^ ^~ ~^   &   == != === !==   < <= > >=   << >> <<< >>>   + -   * / %
abbrev pub infix_of : TokenKind → Option (ℕ × BinaryOp)
infix_of k.LogicalOr = Some (2, binary.LogicalOr)
infix_of k.LogicalAnd = Some (3, binary.LogicalAnd)
infix_of k.Pipe = Some (4, binary.Or)
infix_of k.Caret = Some (5, binary.Xor)
infix_of k.CaretTilde = Some (5, binary.CaretTilde)
infix_of k.TildeCaret = Some (5, binary.TildeCaret)
infix_of k.Ampersand = Some (6, binary.And)
infix_of k.Equal = Some (7, binary.Equal)
infix_of k.NotEqual = Some (7, binary.NotEqual)
infix_of k.CaseEqual = Some (7, binary.CaseEqual)
infix_of k.CaseNotEqual = Some (7, binary.CaseNotEqual)
infix_of k.Less = Some (8, binary.Less)
infix_of k.LessOrEqual = Some (8, binary.LessOrEqual)
infix_of k.Greater = Some (8, binary.Greater)
infix_of k.GreaterOrEqual = Some (8, binary.GreaterOrEqual)
infix_of k.ShiftLeft = Some (9, binary.ShiftLeft)
infix_of k.ShiftRight = Some (9, binary.ShiftRight)
infix_of k.ArithmeticShiftLeft = Some (9, binary.ArithmeticShiftLeft)
infix_of k.ArithmeticShiftRight = Some (9, binary.ArithmeticShiftRight)
infix_of k.Plus = Some (10, binary.Add)
infix_of k.Minus = Some (10, binary.Subtract)
infix_of k.Star = Some (11, binary.Multiply)
infix_of k.Slash = Some (11, binary.Divide)
infix_of k.Percent = Some (11, binary.Remainder)
infix_of _ = None

-- the level above all binary operators, which has the unary ones
abbrev pub tightest : ℕ
tightest = 12

-- + - ! ~ & ~& | ~| ^ ~^ ^~
abbrev pub prefix_of : TokenKind → Option UnaryOp
prefix_of k.Plus = Some unary.Plus
prefix_of k.Minus = Some unary.Minus
prefix_of k.Exclamation = Some unary.LogicalNot
prefix_of k.Tilde = Some unary.Complement
prefix_of k.Ampersand = Some unary.ReduceAnd
prefix_of k.TildeAmpersand = Some unary.ReduceNand
prefix_of k.Pipe = Some unary.ReduceOr
prefix_of k.TildePipe = Some unary.ReduceNor
prefix_of k.Caret = Some unary.ReduceXor
prefix_of k.TildeCaret = Some unary.ReduceTildeCaret
prefix_of k.CaretTilde = Some unary.ReduceCaretTilde
prefix_of _ = None

-- the system functions of expressions
abbrev pub call_of : List ℕ → Option SystemCall
call_of name =
    if bytes_eq name (codes "$signed") then Some call.Signed
    else if bytes_eq name (codes "$unsigned") then Some call.Unsigned
    else if bytes_eq name (codes "$clog2") then Some call.CeilLog2
    else None
