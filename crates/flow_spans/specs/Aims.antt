-- What code has found of a target.
use Rattle.std.specs.Prelude.{◌≡◌, ℕ, ◌+◌, Bool, true, List}
use Rattle.cov_types.specs.declared.var.Var.{Var}
use Rattle.design_tree.specs.declared.step.Target.{Target}
use Rattle.circuit_run.specs.States.{State, Bit, IsBitOf}
use Rattle.design_meaning.specs.WellTyped.{is_target}
use Rattle.design_meaning.specs.Targets.{var_named, names_bit, is_fixed}
use Rattle.design_state.specs.InDesign.{InDesign}
use Rattle.flow_marks.specs.Slots.{is_in}
use Rattle.flow_spans.specs.declared.targets.Aim.{Aim}
use Rattle.flow_spans.specs.Reads.{IsSpanOf}

-- the target is well typed in some design that the state is of
abbrev pub IsTargetIn : State → Target → Type 0
IsTargetIn s t = InDesign s (λ d. is_target d t)

-- The span has the bits that the target names; it is of the target's variable also where it names none. At a constant
-- position it has one word.
pub record IsAimOf (vars : List Var) (t : Target) (aim : Aim) : Type 0 where
  pub span : IsSpanOf vars aim.span
  pub var : aim.span.var ≡ var_named t
  pub fixed : aim.fixed ≡ is_fixed t
  pub single : aim.fixed ≡ true → aim.span.word_end ≡ aim.span.word + 1
  pub bits : (b : Bit) → IsBitOf vars b → is_in aim.span b ≡ names_bit b t
