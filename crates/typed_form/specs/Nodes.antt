-- The nodes that stand for the operators of a source (this project's own; the operators: IEEE 1364-2005, 5.1).
use Rattle.std.specs.Prelude.{ℕ, Bool, true, false, if◌then◌else◌, nat_lt, Option, Some, None}
use Rattle.vlog_tree.specs.declared.operator.UnaryOp.{UnaryOp}
use Rattle.vlog_tree.specs.declared.operator.UnaryOp.TheVariants as unary
use Rattle.vlog_tree.specs.declared.operator.BinaryOp.{BinaryOp}
use Rattle.vlog_tree.specs.declared.operator.BinaryOp.TheVariants as binary
use Rattle.design_tree.specs.declared.operator.TypedUnary.TheVariants as one
use Rattle.design_tree.specs.declared.operator.TypedBinary.TheVariants as two
use Rattle.design_tree.specs.declared.typed.Typed.{Typed}
use Rattle.design_tree.specs.declared.typed.Typed.TheVariants as t

-- One `z` or `x` stands round what is valued by itself where its size is below its context's.
abbrev pub widened : ℕ → ℕ → Bool → Typed → Typed
widened size n true a = if nat_lt size n then t.SignExtend n a else a
widened size n false a = if nat_lt size n then t.ZeroExtend n a else a

-- one `not` round a value
abbrev pub inverted : Typed → Typed
inverted = t.Unary one.Not

-- one `ror` round a test
abbrev pub test : Typed → Typed
test = t.Unary one.ReduceOr

-- `!` and the reductions
abbrev pub reduction : UnaryOp → Option (Typed → Typed)
reduction unary.LogicalNot = Some λ a. inverted (t.Unary one.ReduceOr a)
reduction unary.ReduceAnd = Some (t.Unary one.ReduceAnd)
reduction unary.ReduceNand = Some λ a. inverted (t.Unary one.ReduceAnd a)
reduction unary.ReduceOr = Some (t.Unary one.ReduceOr)
reduction unary.ReduceNor = Some λ a. inverted (t.Unary one.ReduceOr a)
reduction unary.ReduceXor = Some (t.Unary one.ReduceXor)
reduction unary.ReduceTildeCaret = Some λ a. inverted (t.Unary one.ReduceXor a)
reduction unary.ReduceCaretTilde = Some λ a. inverted (t.Unary one.ReduceXor a)
reduction _ = None

-- arithmetic and bitwise operators, in a context that is signed or not
abbrev pub arithmetic : BinaryOp → Bool → Option (Typed → Typed → Typed)
arithmetic binary.Add by_sign = Some (t.Binary two.Add)
arithmetic binary.Subtract by_sign = Some (t.Binary two.Sub)
arithmetic binary.Multiply by_sign = Some (t.Binary two.Mul)
arithmetic binary.Divide true = Some (t.Binary two.DivideSigned)
arithmetic binary.Divide false = Some (t.Binary two.DivideUnsigned)
arithmetic binary.Remainder true = Some (t.Binary two.RemainderSigned)
arithmetic binary.Remainder false = Some (t.Binary two.RemainderUnsigned)
arithmetic binary.And by_sign = Some (t.Binary two.And)
arithmetic binary.Or by_sign = Some (t.Binary two.Or)
arithmetic binary.Xor by_sign = Some (t.Binary two.Xor)
arithmetic binary.TildeCaret by_sign = Some λ a b. inverted (t.Binary two.Xor a b)
arithmetic binary.CaretTilde by_sign = Some λ a b. inverted (t.Binary two.Xor a b)
arithmetic _ by_sign = None

-- shifts; `>>>` fills with the sign bit where the context is signed
abbrev pub shift : BinaryOp → Bool → Option (Typed → Typed → Typed)
shift binary.ShiftLeft by_sign = Some (t.Binary two.ShiftLeft)
shift binary.ArithmeticShiftLeft by_sign = Some (t.Binary two.ShiftLeft)
shift binary.ShiftRight by_sign = Some (t.Binary two.ShiftRight)
shift binary.ArithmeticShiftRight true = Some (t.Binary two.ShiftRightSigned)
shift binary.ArithmeticShiftRight false = Some (t.Binary two.ShiftRight)
shift _ by_sign = None

-- comparisons, of operands that are signed or not; `>` and `>=` are the others with their operands exchanged
abbrev pub comparison : BinaryOp → Bool → Option (Typed → Typed → Typed)
comparison binary.Equal by_sign = Some (t.Binary two.Equal)
comparison binary.CaseEqual by_sign = Some (t.Binary two.Equal)
comparison binary.NotEqual by_sign = Some λ a b. inverted (t.Binary two.Equal a b)
comparison binary.CaseNotEqual by_sign = Some λ a b. inverted (t.Binary two.Equal a b)
comparison binary.Less true = Some (t.Binary two.BelowSigned)
comparison binary.Less false = Some (t.Binary two.BelowUnsigned)
comparison binary.LessOrEqual true = Some (t.Binary two.AtMostSigned)
comparison binary.LessOrEqual false = Some (t.Binary two.AtMostUnsigned)
comparison binary.Greater true = Some λ a b. t.Binary two.BelowSigned b a
comparison binary.Greater false = Some λ a b. t.Binary two.BelowUnsigned b a
comparison binary.GreaterOrEqual true = Some λ a b. t.Binary two.AtMostSigned b a
comparison binary.GreaterOrEqual false = Some λ a b. t.Binary two.AtMostUnsigned b a
comparison _ by_sign = None

-- `&&` and `||`, of two tests
abbrev pub logical : BinaryOp → Option (Typed → Typed → Typed)
logical binary.LogicalAnd = Some λ a b. t.Binary two.And (test a) (test b)
logical binary.LogicalOr = Some λ a b. t.Binary two.Or (test a) (test b)
logical _ = None
