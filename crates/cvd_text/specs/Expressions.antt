-- The spelling of expressions (docs/formats.md, "Design files").
use Rattle.std.specs.Prelude.{ℕ, Bool, List, [], ◌∷◌, ◌++◌, codes, if◌then◌else◌}
use Rattle.design_tree.specs.declared.operator.TypedUnary.{TypedUnary}
use Rattle.design_tree.specs.declared.operator.TypedUnary.TheVariants as unary
use Rattle.design_tree.specs.declared.operator.TypedBinary.{TypedBinary}
use Rattle.design_tree.specs.declared.operator.TypedBinary.TheVariants as binary
use Rattle.design_tree.specs.declared.typed.Index.{Index, fold-Index}
use Rattle.design_tree.specs.declared.typed.Typed.{Typed, Typed-F, fold-Typed}
use Rattle.design_tree.specs.declared.typed.Typed.TheOpen as t
use Rattle.cvd_text.specs.Tokens.{Token, word, number, hex}

abbrev pub unary_word : TypedUnary → List ℕ
unary_word unary.Not = codes "not"
unary_word unary.Neg = codes "neg"
unary_word unary.ReduceAnd = codes "rand"
unary_word unary.ReduceOr = codes "ror"
unary_word unary.ReduceXor = codes "rxor"

abbrev pub binary_word : TypedBinary → List ℕ
binary_word binary.Add = codes "add"
binary_word binary.Sub = codes "sub"
binary_word binary.Mul = codes "mul"
binary_word binary.DivideUnsigned = codes "udiv"
binary_word binary.DivideSigned = codes "sdiv"
binary_word binary.RemainderUnsigned = codes "urem"
binary_word binary.RemainderSigned = codes "srem"
binary_word binary.And = codes "and"
binary_word binary.Or = codes "or"
binary_word binary.Xor = codes "xor"
binary_word binary.Equal = codes "eq"
binary_word binary.BelowUnsigned = codes "ult"
binary_word binary.AtMostUnsigned = codes "ule"
binary_word binary.BelowSigned = codes "slt"
binary_word binary.AtMostSigned = codes "sle"
binary_word binary.ShiftLeft = codes "shl"
binary_word binary.ShiftRight = codes "shr"
binary_word binary.ShiftRightSigned = codes "sar"

-- how a value is read
abbrev pub sign_word : Bool → List ℕ
sign_word signed = if signed then codes "s" else codes "u"

-- a position: LOW S, and E
pub record Position : Type 0 where
  pub front : List Token
  pub value : List Token

abbrev pub node_tokens : Typed-F (List Token) Position → List Token
node_tokens (t.Number w n) = word (codes "k") ∷ number w ∷ hex n ∷ []
node_tokens (t.Var v) = word (codes "v") ∷ number v ∷ []
node_tokens (t.Word v at) = word (codes "m") ∷ number v ∷ at.front ++ at.value
node_tokens (t.Part w of at) = word (codes "p") ∷ number w ∷ at.front ++ (of ++ at.value)
node_tokens (t.ZeroExtend w of) = word (codes "z") ∷ number w ∷ of
node_tokens (t.SignExtend w of) = word (codes "x") ∷ number w ∷ of
node_tokens (t.Truncate w of) = word (codes "t") ∷ number w ∷ of
node_tokens (t.Unary op of) = word (unary_word op) ∷ of
node_tokens (t.Binary op left right) = word (binary_word op) ∷ left ++ right
node_tokens (t.Join high low) = word (codes "cat") ∷ high ++ low
node_tokens (t.Repeat count of) = word (codes "rep") ∷ number count ∷ of
node_tokens (t.Choose test left right) = word (codes "sel") ∷ test ++ (left ++ right)

abbrev pub index_tokens : t.Index-F (List Token) Position → Position
index_tokens at = record { front = number at.low ∷ word (sign_word at.signed) ∷ []; value = at.value }

-- the tokens of an expression, and of a position with its value last
abbrev pub tokens_of : Typed → List Token
tokens_of = fold-Typed (List Token) Position node_tokens index_tokens

abbrev pub position_of : Index → Position
position_of = fold-Index (List Token) Position node_tokens index_tokens

abbrev pub position_tokens : Index → List Token
position_tokens at = (position_of at).front ++ (position_of at).value
