-- The nodes of an operator, by its operation (IEEE 1364-2005, 5.1).
use Rattle.std.specs.Prelude.{Bool, true, false, if◌then◌else◌}
use Rattle.vlog_tree.specs.declared.operator.BinaryOp.{BinaryOp}
use Rattle.vlog_tree.specs.declared.operator.BinaryOp.TheVariants as binary
use Rattle.design_tree.specs.declared.operator.TypedBinary.{TypedBinary}
use Rattle.design_tree.specs.declared.operator.TypedBinary.TheVariants as two
use Rattle.design_tree.specs.declared.typed.Typed.{Typed}
use Rattle.design_tree.specs.declared.typed.Typed.TheVariants as t
use Rattle.typed_form.specs.Nodes.{inverted}

-- the first by sign, else the second
abbrev pub either : Bool → TypedBinary → TypedBinary → TypedBinary
either true signed unsigned = signed
either false signed unsigned = unsigned

-- the node of an operator
abbrev pub node_of : BinaryOp → Bool → TypedBinary
node_of binary.Add by_sign = two.Add
node_of binary.Subtract by_sign = two.Sub
node_of binary.Multiply by_sign = two.Mul
node_of binary.Divide by_sign = either by_sign two.DivideSigned two.DivideUnsigned
node_of binary.Remainder by_sign = either by_sign two.RemainderSigned two.RemainderUnsigned
node_of binary.And by_sign = two.And
node_of binary.LogicalAnd by_sign = two.And
node_of binary.Or by_sign = two.Or
node_of binary.LogicalOr by_sign = two.Or
node_of binary.Xor by_sign = two.Xor
node_of binary.TildeCaret by_sign = two.Xor
node_of binary.CaretTilde by_sign = two.Xor
node_of binary.ShiftLeft by_sign = two.ShiftLeft
node_of binary.ArithmeticShiftLeft by_sign = two.ShiftLeft
node_of binary.ShiftRight by_sign = two.ShiftRight
node_of binary.ArithmeticShiftRight by_sign = either by_sign two.ShiftRightSigned two.ShiftRight
node_of binary.Equal by_sign = two.Equal
node_of binary.CaseEqual by_sign = two.Equal
node_of binary.NotEqual by_sign = two.Equal
node_of binary.CaseNotEqual by_sign = two.Equal
node_of binary.Less by_sign = either by_sign two.BelowSigned two.BelowUnsigned
node_of binary.Greater by_sign = either by_sign two.BelowSigned two.BelowUnsigned
node_of binary.LessOrEqual by_sign = either by_sign two.AtMostSigned two.AtMostUnsigned
node_of binary.GreaterOrEqual by_sign = either by_sign two.AtMostSigned two.AtMostUnsigned

-- `>` and `>=` have their operands exchanged
abbrev pub is_exchanged : BinaryOp → Bool
is_exchanged binary.Greater = true
is_exchanged binary.GreaterOrEqual = true
is_exchanged _ = false

-- `~^`, `^~`, `!=` and `!==` stand inside one `not`
abbrev pub is_inverted : BinaryOp → Bool
is_inverted binary.TildeCaret = true
is_inverted binary.CaretTilde = true
is_inverted binary.NotEqual = true
is_inverted binary.CaseNotEqual = true
is_inverted _ = false

-- the nodes of an operator round its operands
abbrev pub made : BinaryOp → Bool → Typed → Typed → Typed
made op by_sign a b =
    if is_exchanged op then t.Binary (node_of op by_sign) b a
    else if is_inverted op then inverted (t.Binary (node_of op by_sign) a b)
    else t.Binary (node_of op by_sign) a b
