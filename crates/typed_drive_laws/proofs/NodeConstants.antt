-- Whether the nodes that stand for operators are constants.
use Rattle.std.proofs.Common.{◌≡◌, ◌∙◌, sym, ap₂, refl, ℕ, Bool, true, false, ◌&&◌, if◌then◌else◌, is_some, Option, Some, None, nat_lt, true≢false}
use Rattle.vlog_tree.specs.declared.operator.UnaryOp.{UnaryOp}
use Rattle.vlog_tree.specs.declared.operator.UnaryOp.TheVariants as unary
use Rattle.vlog_tree.specs.declared.operator.BinaryOp.{BinaryOp}
use Rattle.vlog_tree.specs.declared.operator.BinaryOp.TheVariants as binary
use Rattle.design_tree.specs.declared.operator.TypedUnary.{TypedUnary}
use Rattle.design_tree.specs.declared.operator.TypedUnary.TheVariants as one
use Rattle.design_tree.specs.declared.operator.TypedBinary.{TypedBinary}
use Rattle.design_tree.specs.declared.operator.TypedBinary.TheVariants as two
use Rattle.design_tree.specs.declared.typed.Typed.{Typed}
use Rattle.design_tree.specs.declared.typed.Typed.TheVariants as t
use Rattle.design_meaning.specs.Spans.{node_constant, index_constant}
use Rattle.design_meaning.proofs.Constants.{constant}
use Rattle.design_meaning.proofs.TypedFolds as typed
use Rattle.typed_form.specs.Nodes.{widened, inverted, test, reduction, arithmetic, shift, comparison, logical}

abbrev pub use_one : Option (Typed → Typed) → Typed → Typed
use_one (Some f) a = f a
use_one None a = a

abbrev pub use_two : Option (Typed → Typed → Typed) → Typed → Typed → Typed
use_two (Some f) a b = f a b
use_two None a b = a

not_none : {A : Type 0} → false ≡ true → A
not_none h = absurd (true≢false (sym h))

pub and_swap : (a b : Bool) → (a && b) ≡ (b && a)
and_swap true true = refl
and_swap true false = refl
and_swap false true = refl
and_swap false false = refl

pub unary_node : (op : TypedUnary) (a : Typed) → constant (t.Unary op a) ≡ constant a
unary_node op a = typed.fold-Unary Bool Bool node_constant index_constant op a

pub binary_node : (op : TypedBinary) (a b : Typed) → constant (t.Binary op a b) ≡ (constant a && constant b)
binary_node op a b = typed.fold-Binary Bool Bool node_constant index_constant op a b

inverted_node : (a : Typed) (c : Bool) → constant a ≡ c → constant (inverted a) ≡ c
inverted_node a c h = unary_node one.Not a ∙ h

if_node : (c : Bool) (a b : Typed) → constant a ≡ constant b → constant (if c then a else b) ≡ constant b
if_node true a b h = h
if_node false a b h = refl

pub widened_node : (size n : ℕ) (by_sign : Bool) (a : Typed) → constant (widened size n by_sign a) ≡ constant a
widened_node size n true a = if_node (nat_lt size n) (t.SignExtend n a) a (typed.fold-SignExtend Bool Bool node_constant index_constant n a)
widened_node size n false a = if_node (nat_lt size n) (t.ZeroExtend n a) a (typed.fold-ZeroExtend Bool Bool node_constant index_constant n a)

pub reduction_node : (op : UnaryOp) (a : Typed) → is_some (reduction op) ≡ true → constant (use_one (reduction op) a) ≡ constant a
reduction_node unary.LogicalNot a h = inverted_node (t.Unary one.ReduceOr a) _ (unary_node one.ReduceOr a)
reduction_node unary.ReduceAnd a h = unary_node one.ReduceAnd a
reduction_node unary.ReduceNand a h = inverted_node (t.Unary one.ReduceAnd a) _ (unary_node one.ReduceAnd a)
reduction_node unary.ReduceOr a h = unary_node one.ReduceOr a
reduction_node unary.ReduceNor a h = inverted_node (t.Unary one.ReduceOr a) _ (unary_node one.ReduceOr a)
reduction_node unary.ReduceXor a h = unary_node one.ReduceXor a
reduction_node unary.ReduceTildeCaret a h = inverted_node (t.Unary one.ReduceXor a) _ (unary_node one.ReduceXor a)
reduction_node unary.ReduceCaretTilde a h = inverted_node (t.Unary one.ReduceXor a) _ (unary_node one.ReduceXor a)
reduction_node op a h = not_none h

pub arithmetic_node : (op : BinaryOp) (by_sign : Bool) (a b : Typed) → is_some (arithmetic op by_sign) ≡ true
    → constant (use_two (arithmetic op by_sign) a b) ≡ (constant a && constant b)
arithmetic_node binary.Add by_sign a b h = binary_node two.Add a b
arithmetic_node binary.Subtract by_sign a b h = binary_node two.Sub a b
arithmetic_node binary.Multiply by_sign a b h = binary_node two.Mul a b
arithmetic_node binary.Divide true a b h = binary_node two.DivideSigned a b
arithmetic_node binary.Divide false a b h = binary_node two.DivideUnsigned a b
arithmetic_node binary.Remainder true a b h = binary_node two.RemainderSigned a b
arithmetic_node binary.Remainder false a b h = binary_node two.RemainderUnsigned a b
arithmetic_node binary.And by_sign a b h = binary_node two.And a b
arithmetic_node binary.Or by_sign a b h = binary_node two.Or a b
arithmetic_node binary.Xor by_sign a b h = binary_node two.Xor a b
arithmetic_node binary.TildeCaret by_sign a b h = inverted_node (t.Binary two.Xor a b) _ (binary_node two.Xor a b)
arithmetic_node binary.CaretTilde by_sign a b h = inverted_node (t.Binary two.Xor a b) _ (binary_node two.Xor a b)
arithmetic_node op by_sign a b h = not_none h

pub shift_node : (op : BinaryOp) (by_sign : Bool) (a b : Typed) → is_some (shift op by_sign) ≡ true
    → constant (use_two (shift op by_sign) a b) ≡ (constant a && constant b)
shift_node binary.ShiftLeft by_sign a b h = binary_node two.ShiftLeft a b
shift_node binary.ArithmeticShiftLeft by_sign a b h = binary_node two.ShiftLeft a b
shift_node binary.ShiftRight by_sign a b h = binary_node two.ShiftRight a b
shift_node binary.ArithmeticShiftRight true a b h = binary_node two.ShiftRightSigned a b
shift_node binary.ArithmeticShiftRight false a b h = binary_node two.ShiftRight a b
shift_node op by_sign a b h = not_none h

pub comparison_node : (op : BinaryOp) (by_sign : Bool) (a b : Typed) → is_some (comparison op by_sign) ≡ true
    → constant (use_two (comparison op by_sign) a b) ≡ (constant a && constant b)
comparison_node binary.Equal by_sign a b h = binary_node two.Equal a b
comparison_node binary.CaseEqual by_sign a b h = binary_node two.Equal a b
comparison_node binary.NotEqual by_sign a b h = inverted_node (t.Binary two.Equal a b) _ (binary_node two.Equal a b)
comparison_node binary.CaseNotEqual by_sign a b h = inverted_node (t.Binary two.Equal a b) _ (binary_node two.Equal a b)
comparison_node binary.Less true a b h = binary_node two.BelowSigned a b
comparison_node binary.Less false a b h = binary_node two.BelowUnsigned a b
comparison_node binary.LessOrEqual true a b h = binary_node two.AtMostSigned a b
comparison_node binary.LessOrEqual false a b h = binary_node two.AtMostUnsigned a b
comparison_node binary.Greater true a b h = binary_node two.BelowSigned b a ∙ and_swap (constant b) (constant a)
comparison_node binary.Greater false a b h = binary_node two.BelowUnsigned b a ∙ and_swap (constant b) (constant a)
comparison_node binary.GreaterOrEqual true a b h = binary_node two.AtMostSigned b a ∙ and_swap (constant b) (constant a)
comparison_node binary.GreaterOrEqual false a b h = binary_node two.AtMostUnsigned b a ∙ and_swap (constant b) (constant a)
comparison_node op by_sign a b h = not_none h

pub logical_node : (op : BinaryOp) (a b : Typed) → is_some (logical op) ≡ true → constant (use_two (logical op) a b) ≡ (constant a && constant b)
logical_node binary.LogicalAnd a b h =
    binary_node two.And (test a) (test b) ∙ ap₂ ◌&&◌ (unary_node one.ReduceOr a) (unary_node one.ReduceOr b)
logical_node binary.LogicalOr a b h =
    binary_node two.Or (test a) (test b) ∙ ap₂ ◌&&◌ (unary_node one.ReduceOr a) (unary_node one.ReduceOr b)
logical_node op a b h = not_none h
