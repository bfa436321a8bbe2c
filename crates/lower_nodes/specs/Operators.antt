-- The forms of operators round those of their operands, by the way in which they size them (IEEE 1364-2005, 5.4 and 5.5).
use Rattle.std.specs.Prelude.{◌≡◌, ℕ, max, Bool, true, false, ◌&&◌, if◌then◌else◌}
use Rattle.vlog_tree.specs.declared.operator.UnaryOp.{UnaryOp}
use Rattle.vlog_tree.specs.declared.operator.UnaryOp.TheVariants as unary
use Rattle.vlog_tree.specs.declared.operator.BinaryOp.{BinaryOp}
use Rattle.vlog_tree.specs.declared.operator.BinaryOp.TheVariants as binary
use Rattle.vlog_tree.specs.declared.operator.SystemCall.{SystemCall}
use Rattle.vlog_tree.specs.declared.operator.SystemCall.TheVariants as call
use Rattle.design_tree.specs.declared.operator.TypedUnary.{TypedUnary}
use Rattle.design_tree.specs.declared.operator.TypedUnary.TheVariants as one
use Rattle.design_tree.specs.declared.typed.Typed.{Typed}
use Rattle.design_tree.specs.declared.typed.Typed.TheVariants as t
use Rattle.typed_form.specs.Nodes.{inverted, test}
use Rattle.lower_forms.specs.declared.form.Form.{Form}
use Rattle.lower_forms.specs.declared.form.Form.TheVariants as f
use Rattle.lower_forms.specs.declared.sized.SizedForm.{SizedForm}
use Rattle.lower_forms.specs.Operators.{made}
use Rattle.lower_forms.specs.Forms.{settled}
use Rattle.lower_nodes.specs.declared.binary.Sizing.{Sizing}
use Rattle.lower_nodes.specs.declared.binary.Sizing.TheVariants as sizing

-- the nodes of a form by itself
abbrev pub own : SizedForm → Typed
own of = settled of.size of.signed of.form

-- one `ror` round them
abbrev pub test_of : SizedForm → Typed
test_of of = test (own of)

-- a form of this size, sign and layer
pub record Is (n : ℕ) (by_sign : Bool) (shape : Form) (t : SizedForm) : Type 0 where
  pub size : t.size ≡ n
  pub signed : t.signed ≡ by_sign
  pub form : t.form ≡ shape

-- ---- unary operators

abbrev pub reduction_of : UnaryOp → TypedUnary
reduction_of unary.ReduceAnd = one.ReduceAnd
reduction_of unary.ReduceNand = one.ReduceAnd
reduction_of unary.ReduceXor = one.ReduceXor
reduction_of unary.ReduceTildeCaret = one.ReduceXor
reduction_of unary.ReduceCaretTilde = one.ReduceXor
reduction_of _ = one.ReduceOr

abbrev pub is_inverted : UnaryOp → Bool
is_inverted unary.LogicalNot = true
is_inverted unary.ReduceNand = true
is_inverted unary.ReduceNor = true
is_inverted unary.ReduceTildeCaret = true
is_inverted unary.ReduceCaretTilde = true
is_inverted _ = false

abbrev pub reduced : UnaryOp → Typed → Typed
reduced op a = if is_inverted op then inverted (t.Unary (reduction_of op) a) else t.Unary (reduction_of op) a

-- `-` and `~`
abbrev pub IsWaiting : TypedUnary → SizedForm → SizedForm → Type 0
IsWaiting op of = Is of.size of.signed (f.Unary op of.form)

-- `!` and the reductions
abbrev pub IsReduced : UnaryOp → SizedForm → SizedForm → Type 0
IsReduced op of = Is 1 false (f.Alone 1 (reduced op (own of)))

-- ---- binary operators

abbrev pub sizing_of : BinaryOp → Sizing
sizing_of binary.ShiftLeft = sizing.Shift
sizing_of binary.ShiftRight = sizing.Shift
sizing_of binary.ArithmeticShiftLeft = sizing.Shift
sizing_of binary.ArithmeticShiftRight = sizing.Shift
sizing_of binary.Equal = sizing.Comparison
sizing_of binary.NotEqual = sizing.Comparison
sizing_of binary.CaseEqual = sizing.Comparison
sizing_of binary.CaseNotEqual = sizing.Comparison
sizing_of binary.Less = sizing.Comparison
sizing_of binary.LessOrEqual = sizing.Comparison
sizing_of binary.Greater = sizing.Comparison
sizing_of binary.GreaterOrEqual = sizing.Comparison
sizing_of binary.LogicalAnd = sizing.Tests
sizing_of binary.LogicalOr = sizing.Tests
sizing_of _ = sizing.InContext

-- both operands take the context
abbrev pub IsInContext : BinaryOp → SizedForm → SizedForm → SizedForm → Type 0
IsInContext op a b = Is (max a.size b.size) (a.signed && b.signed) (f.Binary op a.form b.form)

-- the left one does
abbrev pub IsShift : BinaryOp → SizedForm → SizedForm → SizedForm → Type 0
IsShift op a b = Is a.size a.signed (f.Shift op a.form (own b))

-- both have the greater of their sizes, and are read by their signs where both are signed
abbrev pub compared : BinaryOp → SizedForm → SizedForm → Typed
compared op a b =
    let n = max a.size b.size in
    let by_sign = a.signed && b.signed in
    made op by_sign (settled n by_sign a.form) (settled n by_sign b.form)

abbrev pub IsComparison : BinaryOp → SizedForm → SizedForm → SizedForm → Type 0
IsComparison op a b = Is 1 false (f.Alone 1 (compared op a b))

-- each is a test
abbrev pub AreTests : BinaryOp → SizedForm → SizedForm → SizedForm → Type 0
AreTests op a b = Is 1 false (f.Alone 1 (made op false (test_of a) (test_of b)))

abbrev pub IsSized : Sizing → BinaryOp → SizedForm → SizedForm → SizedForm → Type 0
IsSized sizing.InContext = IsInContext
IsSized sizing.Shift = IsShift
IsSized sizing.Comparison = IsComparison
IsSized sizing.Tests = AreTests

-- the form of a binary operator
abbrev pub IsBinary : BinaryOp → SizedForm → SizedForm → SizedForm → Type 0
IsBinary op = IsSized (sizing_of op) op

-- ---- the others

-- `?:`
abbrev pub IsChoice : SizedForm → SizedForm → SizedForm → SizedForm → Type 0
IsChoice on a b = Is (max a.size b.size) (a.signed && b.signed) (f.Choose (test_of on) a.form b.form)

-- `$signed` and `$unsigned`
abbrev pub sign_call : Bool → SystemCall
sign_call true = call.Signed
sign_call false = call.Unsigned

abbrev pub IsSigned : Bool → SizedForm → SizedForm → Type 0
IsSigned signed of = Is of.size signed (f.Alone of.size (own of))
