-- What reading an expression gives: its typed form, or the first thing that is refused in it.
use Rattle.std.specs.Prelude.{◌≡◌, ℕ, Bool, true, false, Result, Ok, Err, IfOk}
use Rattle.std.specs.declared.alloc.AllocError.{AllocError}
use Rattle.elab_types.specs.declared.flat_source.FlatVar.{FlatVar}
use Rattle.std.specs.Prelude.{List}
use Rattle.elab_types.specs.declared.flat_expression.FlatExpr.{FlatExpr}
use Rattle.flat_meaning.specs.Faults.{check}
use Rattle.typed_form.specs.TypedExpressions.{IsTyped, size, signed}
use Rattle.lower_forms.specs.declared.sized.SizedForm.{SizedForm}
use Rattle.lower_forms.specs.Forms.{settled}
use Rattle.lower_nodes.specs.declared.fault.ExpressionFault.{ExpressionFault}
use Rattle.lower_nodes.specs.declared.fault.ExpressionFault.TheVariants as fault

-- It has the size and sign that the expression has by itself, and in each context it is a typed form of it.
pub record IsForm (vars : List FlatVar) (a : FlatExpr) (t : SizedForm) : Type 0 where
  pub size : t.size ≡ size vars a
  pub signed : t.signed ≡ signed vars a
  pub forms : (n : ℕ) (by_sign : Bool) → IsTyped vars a n by_sign (settled n by_sign t.form)

-- All selects can be and all sizes are at most 128, and it is what was asked for; or some select can't be, or some size is past
-- 128.
abbrev pub Gives : {A : Type 0} → Bool → Bool → (A → Type 0) → Result A ExpressionFault → Type 0
Gives selects sizes is (Ok a) = (selects ≡ true) × (sizes ≡ true) × is a
Gives selects sizes is (Err fault.NoMemory) = Unit {0}
Gives selects sizes is (Err fault.BadSelect) = selects ≡ false
Gives selects sizes is (Err fault.WidthPast128) = (selects ≡ true) × (sizes ≡ false)

-- what reading an expression gives
abbrev pub Lowers : List FlatVar → FlatExpr → Result SizedForm ExpressionFault → Type 0
Lowers vars a = Gives (check vars a).selects (check vars a).sizes (IsForm vars a)

-- a typed form of it is made, where memory allows
abbrev pub MakesForm : List FlatVar → FlatExpr → Result SizedForm AllocError → Type 0
MakesForm vars a r = IfOk r (λ t. IsForm vars a t)
