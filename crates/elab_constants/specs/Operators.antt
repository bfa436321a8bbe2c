-- The operators by the way in which they size their operands.
use Rattle.std.specs.Prelude.{ℕ, Bool, ◌&&◌, ◌||◌, []}
use Rattle.bit_values.specs.Values as value
use Rattle.vlog_tree.specs.declared.operator.UnaryOp.{UnaryOp}
use Rattle.vlog_tree.specs.declared.operator.UnaryOp.TheVariants as unary
use Rattle.vlog_tree.specs.declared.operator.BinaryOp.{BinaryOp}
use Rattle.vlog_tree.specs.declared.operator.BinaryOp.TheVariants as binary
use Rattle.source_meaning.specs.Meaning.{Meaning}
use Rattle.source_meaning.specs.Operators.{in_context, shifted, compared, of_tests, below, at_most}
use Rattle.elab_constants.specs.declared.term.Arithmetic.TheVariants as arithmetic
use Rattle.elab_constants.specs.declared.term.Shift.TheVariants as shift
use Rattle.elab_constants.specs.declared.binary.Comparison.{Comparison}
use Rattle.elab_constants.specs.declared.binary.Comparison.TheVariants as order
use Rattle.elab_constants.specs.declared.binary.BinaryKind.{BinaryKind}
use Rattle.elab_constants.specs.declared.binary.BinaryKind.TheVariants as kind
use Rattle.elab_constants.specs.Terms.{arithmetic_value, shift_value}

-- `!` and the reductions
abbrev pub reduction : UnaryOp → ℕ → ℕ → ℕ
reduction unary.ReduceAnd w n = value.red_and w n
reduction unary.ReduceNand w n = value.not 1 (value.red_and w n)
reduction unary.ReduceOr w n = value.red_or n
reduction unary.ReduceXor w n = value.red_xor n
reduction unary.ReduceTildeCaret w n = value.not 1 (value.red_xor n)
reduction unary.ReduceCaretTilde w n = value.not 1 (value.red_xor n)
reduction _ w n = value.not 1 (value.red_or n)

abbrev pub negative : Meaning → Meaning
negative a = record a { free = 0; objects = []; value = λ s n by_sign. value.neg n (a.value s n by_sign) }

abbrev pub complement : Meaning → Meaning
complement a = record a { free = 0; objects = []; value = λ s n by_sign. value.not n (a.value s n by_sign) }

abbrev pub comparison : Comparison → ℕ → Bool → ℕ → ℕ → ℕ
comparison order.Equal n by_sign x y = value.equal x y
comparison order.NotEqual n by_sign x y = value.not 1 (value.equal x y)
comparison order.Below n by_sign x y = below n by_sign x y
comparison order.AtMost n by_sign x y = at_most n by_sign x y
comparison order.Above n by_sign x y = below n by_sign y x
comparison order.AtLeast n by_sign x y = at_most n by_sign y x

-- what an operator of a kind means
abbrev pub of_kind : BinaryKind → Meaning → Meaning → Meaning
of_kind (kind.InContext op) = in_context (arithmetic_value op)
of_kind (kind.Shifted op) = shifted (shift_value op)
of_kind (kind.Compared op) = compared (comparison op)
of_kind kind.Both = of_tests λ p q. p && q
of_kind kind.Either = of_tests λ p q. p || q

-- the kind of an operator
abbrev pub kind_of : BinaryOp → BinaryKind
kind_of binary.Add = kind.InContext arithmetic.Add
kind_of binary.Subtract = kind.InContext arithmetic.Subtract
kind_of binary.Multiply = kind.InContext arithmetic.Multiply
kind_of binary.Divide = kind.InContext arithmetic.Divide
kind_of binary.Remainder = kind.InContext arithmetic.Remainder
kind_of binary.And = kind.InContext arithmetic.And
kind_of binary.Or = kind.InContext arithmetic.Or
kind_of binary.Xor = kind.InContext arithmetic.Xor
kind_of binary.TildeCaret = kind.InContext arithmetic.Xnor
kind_of binary.CaretTilde = kind.InContext arithmetic.Xnor
kind_of binary.ShiftLeft = kind.Shifted shift.Left
kind_of binary.ArithmeticShiftLeft = kind.Shifted shift.Left
kind_of binary.ShiftRight = kind.Shifted shift.Right
kind_of binary.ArithmeticShiftRight = kind.Shifted shift.Arithmetic
kind_of binary.Equal = kind.Compared order.Equal
kind_of binary.CaseEqual = kind.Compared order.Equal
kind_of binary.NotEqual = kind.Compared order.NotEqual
kind_of binary.CaseNotEqual = kind.Compared order.NotEqual
kind_of binary.Less = kind.Compared order.Below
kind_of binary.LessOrEqual = kind.Compared order.AtMost
kind_of binary.Greater = kind.Compared order.Above
kind_of binary.GreaterOrEqual = kind.Compared order.AtLeast
kind_of binary.LogicalAnd = kind.Both
kind_of binary.LogicalOr = kind.Either
