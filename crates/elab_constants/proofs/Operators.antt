-- Operators by their kinds.
use Rattle.std.proofs.Common.{◌≡◌, refl, false, []}
use Rattle.bit_values.specs.Values as value
use Rattle.vlog_tree.specs.declared.operator.UnaryOp.{UnaryOp}
use Rattle.vlog_tree.specs.declared.operator.UnaryOp.TheVariants.{Plus, Minus, LogicalNot, Complement, ReduceAnd, ReduceNand, ReduceOr, ReduceNor, ReduceXor}
use Rattle.vlog_tree.specs.declared.operator.UnaryOp.TheVariants.{ReduceTildeCaret, ReduceCaretTilde}
use Rattle.vlog_tree.specs.declared.operator.BinaryOp.{BinaryOp}
use Rattle.vlog_tree.specs.declared.operator.BinaryOp.TheVariants as b
use Rattle.source_meaning.specs.Meaning.{Meaning, own}
use Rattle.source_meaning.specs.Operators.{unary_of, binary_of}
use Rattle.elab_constants.specs.declared.sized.SizedTerm.{SizedTerm}
use Rattle.elab_constants.specs.Operators.{reduction, kind_of, of_kind}
use Rattle.elab_constants.specs.Sized.{IsSized, IsNumberOf}
use Rattle.elab_constants.proofs.Sizes.{by_itself_is}

pub binary_is : (op : BinaryOp) → binary_of op ≡ of_kind (kind_of op)
binary_is b.Add = refl
binary_is b.Subtract = refl
binary_is b.Multiply = refl
binary_is b.Divide = refl
binary_is b.Remainder = refl
binary_is b.And = refl
binary_is b.Or = refl
binary_is b.Xor = refl
binary_is b.TildeCaret = refl
binary_is b.CaretTilde = refl
binary_is b.ShiftLeft = refl
binary_is b.ArithmeticShiftLeft = refl
binary_is b.ShiftRight = refl
binary_is b.ArithmeticShiftRight = refl
binary_is b.Equal = refl
binary_is b.CaseEqual = refl
binary_is b.NotEqual = refl
binary_is b.CaseNotEqual = refl
binary_is b.Less = refl
binary_is b.LessOrEqual = refl
binary_is b.Greater = refl
binary_is b.GreaterOrEqual = refl
binary_is b.LogicalAnd = refl
binary_is b.LogicalOr = refl

-- `!` and the reductions are one bit of the value by itself
pub reduction_is : (op : UnaryOp) (a : Meaning) (t : SizedTerm) → (op ≡ Plus → ⊥) → (op ≡ Minus → ⊥) → (op ≡ Complement → ⊥)
    → IsNumberOf 1 (reduction op a.size (own a [])) false t → IsSized (unary_of op a) t
reduction_is Plus a t p m c k = absurd (p refl)
reduction_is Minus a t p m c k = absurd (m refl)
reduction_is Complement a t p m c k = absurd (c refl)
reduction_is LogicalNot a t p m c k = by_itself_is 1 _ false a.constant (λ s. value.not 1 (value.red_or (own a s))) t k refl
reduction_is ReduceAnd a t p m c k = by_itself_is 1 _ false a.constant (λ s. value.red_and a.size (own a s)) t k refl
reduction_is ReduceNand a t p m c k = by_itself_is 1 _ false a.constant (λ s. value.not 1 (value.red_and a.size (own a s))) t k refl
reduction_is ReduceOr a t p m c k = by_itself_is 1 _ false a.constant (λ s. value.red_or (own a s)) t k refl
reduction_is ReduceNor a t p m c k = by_itself_is 1 _ false a.constant (λ s. value.not 1 (value.red_or (own a s))) t k refl
reduction_is ReduceXor a t p m c k = by_itself_is 1 _ false a.constant (λ s. value.red_xor (own a s)) t k refl
reduction_is ReduceTildeCaret a t p m c k = by_itself_is 1 _ false a.constant (λ s. value.not 1 (value.red_xor (own a s))) t k refl
reduction_is ReduceCaretTilde a t p m c k = by_itself_is 1 _ false a.constant (λ s. value.not 1 (value.red_xor (own a s))) t k refl
