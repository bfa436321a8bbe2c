-- What the typed form of an expression or a statement keeps.
use Rattle.std.specs.Prelude.{◌≡◌, ◌≤◌, ℕ, Bool, List, Some, slice_get}
use Rattle.elab_types.specs.declared.flat_source.FlatVar.{FlatVar}
use Rattle.elab_types.specs.declared.flat_expression.FlatExpr.{FlatExpr}
use Rattle.elab_types.specs.declared.flat_statement.FlatStmt.{FlatStmt}
use Rattle.design_tree.specs.declared.typed.Typed.{Typed}
use Rattle.design_tree.specs.declared.step.Step.{Step}
use Rattle.circuit_run.specs.States.{State, held}
use Rattle.circuit_run.specs.Agreement.{Agrees}
use Rattle.source_meaning.specs.Events.{Event}
use Rattle.flat_meaning.specs.Expressions.{meaning}
use Rattle.flat_meaning.specs.Statements.{does}
use Rattle.design_meaning.specs.Values.{value_in, of_width}
use Rattle.design_meaning.specs.Steps.{all_do}
use Rattle.typed_form.specs.TypedExpressions.{IsTyped, size}
use Rattle.typed_form.specs.TypedSteps.{AreSteps}

-- The state has each variable's width.
abbrev pub HasWidths : List FlatVar → State → Type 0
HasWidths vars s = (k : ℕ) (v : FlatVar) → slice_get vars k ≡ Some v → (held s k).width ≡ v.width

-- The typed form of an expression has its value in each state, at each size and sign of a context that holds it.
abbrev pub KeepsValue : Type 0
KeepsValue =
    (vars : List FlatVar) (s : State) → HasWidths vars s →
    (e : FlatExpr) (n : ℕ) (by_sign : Bool) (a : Typed) →
    IsTyped vars e n by_sign a → size vars e ≤ n → value_in s a ≡ of_width n ((meaning vars e).value s n by_sign)

-- The steps of a statement do what it does; what they count is what stands for the entered arms.
abbrev pub KeepsRun : Type 0
KeepsRun =
    (vars : List FlatVar) (scope : ℕ) (marks : Event → List ℕ) (st : FlatStmt) (steps : List Step) → AreSteps vars scope marks st steps →
    (s : State) → HasWidths vars s → Agrees marks (does vars scope st s) (all_do steps s)
