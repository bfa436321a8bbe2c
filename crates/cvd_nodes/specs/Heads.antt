-- The first word of an expression, which tells its form.
use Rattle.std.specs.Prelude.{ℕ, List, [], ◌∷◌, codes, Option, None, Some, if◌then◌else◌}
use Rattle.std.specs.Option.{option_map}
use Rattle.std.specs.Str.{bytes_eq}
use Rattle.design_tree.specs.declared.operator.TypedUnary.{TypedUnary}
use Rattle.design_tree.specs.declared.operator.TypedUnary.TheVariants as unary
use Rattle.design_tree.specs.declared.operator.TypedBinary.{TypedBinary}
use Rattle.design_tree.specs.declared.operator.TypedBinary.TheVariants as binary
use Rattle.cvd_text.specs.Expressions.{unary_word, binary_word}
use Rattle.cvd_nodes.specs.declared.head.Head.{Head}
use Rattle.cvd_nodes.specs.declared.head.Head.TheVariants as head

abbrev pub head_text : Head → List ℕ
head_text head.Number = codes "k"
head_text head.Var = codes "v"
head_text head.Word = codes "m"
head_text head.Part = codes "p"
head_text head.ZeroExtend = codes "z"
head_text head.SignExtend = codes "x"
head_text head.Truncate = codes "t"
head_text (head.Unary op) = unary_word op
head_text (head.Binary op) = binary_word op
head_text head.Join = codes "cat"
head_text head.Repeat = codes "rep"
head_text head.Choose = codes "sel"

-- a word, and what it tells
pub record Entry (A : Type 0) : Type 0 where
  pub text : List ℕ
  pub tells : A

abbrev pub entry : {A : Type 0} → List ℕ → A → Entry A
entry text tells = record { text = text; tells = tells }

-- what a word tells by a table
abbrev pub look_up : {A : Type 0} → List (Entry A) → List ℕ → Option A
look_up [] text = None
look_up (e ∷ es) text = if bytes_eq text e.text then Some e.tells else look_up es text

abbrev pub plain_table : List (Entry Head)
plain_table =
    entry (codes "k") head.Number ∷ entry (codes "v") head.Var ∷ entry (codes "m") head.Word ∷ entry (codes "p") head.Part
    ∷ entry (codes "z") head.ZeroExtend ∷ entry (codes "x") head.SignExtend ∷ entry (codes "t") head.Truncate
    ∷ entry (codes "cat") head.Join ∷ entry (codes "rep") head.Repeat ∷ entry (codes "sel") head.Choose ∷ []

abbrev pub unary_table : List (Entry TypedUnary)
unary_table =
    entry (codes "not") unary.Not ∷ entry (codes "neg") unary.Neg ∷ entry (codes "rand") unary.ReduceAnd ∷ entry (codes "ror") unary.ReduceOr
    ∷ entry (codes "rxor") unary.ReduceXor ∷ []

abbrev pub value_table : List (Entry TypedBinary)
value_table =
    entry (codes "add") binary.Add ∷ entry (codes "sub") binary.Sub ∷ entry (codes "mul") binary.Mul ∷ entry (codes "udiv") binary.DivideUnsigned
    ∷ entry (codes "sdiv") binary.DivideSigned ∷ entry (codes "urem") binary.RemainderUnsigned ∷ entry (codes "srem") binary.RemainderSigned
    ∷ entry (codes "and") binary.And ∷ entry (codes "or") binary.Or ∷ entry (codes "xor") binary.Xor ∷ []

abbrev pub other_table : List (Entry TypedBinary)
other_table =
    entry (codes "eq") binary.Equal ∷ entry (codes "ult") binary.BelowUnsigned ∷ entry (codes "ule") binary.AtMostUnsigned
    ∷ entry (codes "slt") binary.BelowSigned ∷ entry (codes "sle") binary.AtMostSigned ∷ entry (codes "shl") binary.ShiftLeft
    ∷ entry (codes "shr") binary.ShiftRight ∷ entry (codes "sar") binary.ShiftRightSigned ∷ []

-- the first of two that is there
abbrev pub first_of : {A : Type 0} → Option A → Option A → Option A
first_of None other = other
first_of (Some a) other = Some a

abbrev pub head_of : List ℕ → Option Head
head_of text =
    first_of (look_up plain_table text) (first_of (option_map head.Unary (look_up unary_table text))
    (first_of (option_map head.Binary (look_up value_table text)) (option_map head.Binary (look_up other_table text))))
