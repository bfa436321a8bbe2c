-- What is asked of an expression that is evaluated in a state: that it is well typed in some design that the state is of.
use Rattle.std.specs.Prelude.{Bool, IsTrue}
use Rattle.design_tree.specs.declared.design.Design.{Design}
use Rattle.design_tree.specs.declared.typed.Index.{Index}
use Rattle.design_tree.specs.declared.typed.Typed.{Typed}
use Rattle.circuit_run.specs.States.{State}
use Rattle.design_meaning.specs.States.{IsStateOf}
use Rattle.design_meaning.specs.WellTyped.{is_typed, is_index}

-- a test holds for some design that the state is a state of
pub record InDesign (s : State) (test : Design → Bool) : Type 0 where
  pub design : Design
  pub of : IsStateOf design s
  pub holds : IsTrue (test design)

abbrev pub IsTypedIn : State → Typed → Type 0
IsTypedIn s e = InDesign s (λ d. is_typed d e)

abbrev pub IsIndexIn : State → Index → Type 0
IsIndexIn s at = InDesign s (λ d. is_index d at)
