-- What reading an expression of the head of a loop gives.
use Rattle.std.specs.Prelude.{◌≡◌, Bool, true, false, Option, Some, None}
use Rattle.vlog_tree.specs.declared.expression.Expr.{Expr}
use Rattle.source_meaning.specs.Environment.{Environment}
use Rattle.source_meaning.specs.Expressions.{meaning}
use Rattle.flat_source_meaning.specs.FixedParts.{is_constant}
use Rattle.elab_constants.specs.declared.sized.SizedTerm.{SizedTerm}
use Rattle.elab_constants.specs.Sized.{IsSized}

-- what is said where an expression is a constant, and nothing where it is none
abbrev pub Says : {A : Type 0} → Bool → A → Option A → Type 0
Says is_one a (Some b) = (is_one ≡ true) × (b ≡ a)
Says is_one a None = is_one ≡ false

-- the term of an expression, where it is a constant
abbrev pub IsTerm : Environment → Expr → Option SizedTerm → Type 0
IsTerm env e (Some t) = (is_constant env e ≡ true) × IsSized (meaning env e) t
IsTerm env e None = is_constant env e ≡ false
