-- That typed forms agree in their widths.
use Rattle.std.specs.Prelude.{◌≡◌, ℕ, ◌+◌, ◌^◌, ◌<◌, ◌≤◌, Bool, true, false, List, map, slice_get, Some, nat_lt}
use Rattle.std.specs.List.{list_all}
use Rattle.elab_types.specs.declared.flat_source.FlatVar.{FlatVar}
use Rattle.elab_types.specs.declared.flat_expression.FlatExpr.{FlatExpr}
use Rattle.elab_types.specs.declared.flat_statement.FlatStmt.{FlatStmt}
use Rattle.design_tree.specs.declared.step.Step.{Step}
use Rattle.design_tree.specs.declared.design.Design.{Design}
use Rattle.design_tree.specs.declared.typed.Typed.{Typed}
use Rattle.source_meaning.specs.Events.{Event}
use Rattle.flat_meaning.specs.Circuit.{var_of}
use Rattle.flat_meaning.specs.Faults.{check}
use Rattle.design_meaning.specs.WellTyped.{is_typed}
use Rattle.design_meaning.specs.WellFormed.{is_step}
use Rattle.design_meaning.specs.Widths.{width_of}
use Rattle.typed_form.specs.TypedExpressions.{IsTyped, size}
use Rattle.typed_form.specs.TypedSteps.{AreSteps}
use Rattle.typed_valid_laws.specs.NumbersFit.{numbers_fit}
use Rattle.typed_valid_laws.specs.StatementsFit.{statement_fits}

-- A variable has from 1 to 128 bits, room for the numbers of its bits and words, and but for a memory one word.
pub record IsRoomy (v : FlatVar) : Type 0 where
  pub some_bits : 1 ≤ v.width
  pub few_bits : v.width ≤ 128
  pub bits : v.low + 127 < 2 ^ 32
  pub words : v.word_low < 2 ^ 32
  pub one_word : v.memory ≡ false → v.words ≡ 1

-- Each variable has.
abbrev pub AreRoomy : List FlatVar → Type 0
AreRoomy vars = (k : ℕ) (v : FlatVar) → slice_get vars k ≡ Some v → IsRoomy v

-- The typed form of an expression, at a size of at most 128 that holds it, is well typed and has that width, where numbers fit
-- and all sizes inside are at most 128.
abbrev pub TypedFormsAgree : Type 0
TypedFormsAgree =
    (vars : List FlatVar) (d : Design) → d.vars ≡ map var_of vars → AreRoomy vars →
    (e : FlatExpr) (n : ℕ) (by_sign : Bool) (a : Typed) →
    IsTyped vars e n by_sign a → numbers_fit vars e ≡ true → (check vars e).sizes ≡ true → size vars e ≤ n → n ≤ 128
    → (is_typed d a ≡ true) × (width_of d a ≡ n)

-- The steps of a typed form are well formed in a design with so many counters, where the statement's expressions fit and all
-- counters of arms are counters of the design.
abbrev pub TypedStepsAreFormed : Type 0
TypedStepsAreFormed =
    (vars : List FlatVar) (d : Design) → d.vars ≡ map var_of vars → AreRoomy vars →
    (counters scope : ℕ) (marks : Event → List ℕ) → ((e : Event) → list_all (λ c. nat_lt c counters) (marks e) ≡ true) →
    (st : FlatStmt) (steps : List Step) → AreSteps vars scope marks st steps → statement_fits vars st ≡ true → list_all (is_step d counters) steps ≡ true
