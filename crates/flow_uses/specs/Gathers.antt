-- Private: what code has gathered of steps.
use Rattle.std.specs.Prelude.{◌≡◌, ℕ, Bool, ◌&&◌, List, ◌++◌, All}
use Rattle.std.specs.List.{list_all}
use Rattle.cov_types.specs.declared.var.Var.{Var}
use Rattle.design_tree.specs.declared.design.Design.{Design}
use Rattle.design_tree.specs.declared.step.Target.{Target}
use Rattle.design_tree.specs.declared.step.Piece.{Piece}
use Rattle.design_tree.specs.declared.step.StepItem.{StepItem}
use Rattle.design_tree.specs.declared.step.StepArm.{StepArm}
use Rattle.design_tree.specs.declared.step.Step.{Step}
use Rattle.circuit_run.specs.States.{State, Bit, IsBitOf}
use Rattle.design_meaning.specs.WellTyped.{is_typed, is_target, is_piece}
use Rattle.design_meaning.specs.WellFormed.{is_step}
use Rattle.design_meaning.specs.Paths.{Event}
use Rattle.design_meaning.specs.Reach.{event_reads, event_sets, event_defers}
use Rattle.design_state.specs.InDesign.{InDesign}
use Rattle.flow_marks.specs.declared.span.Span.{Span}
use Rattle.flow_spans.specs.Reads.{IsSpanOf, has_bit, Adds}
use Rattle.flow_uses.specs.declared.lists.Lists.{Lists}
use Rattle.flow_uses.specs.Uses.{has_var}
use Rattle.flow_uses.specs.declared.uses.Uses.{Uses}
use Rattle.flow_uses.specs.Walks.{some_in_all, sets_bit, defers_bit}

-- all of these are well typed in some design that the state is of
abbrev pub AreTargetsIn : State → List Target → Type 0
AreTargetsIn s ts = InDesign s (λ d. list_all (is_target d) ts)

abbrev pub IsPieceIn : State → Piece → Type 0
IsPieceIn s p = InDesign s (λ d. is_piece d p)

abbrev pub ArePiecesIn : State → List Piece → Type 0
ArePiecesIn s ps = InDesign s (λ d. list_all (is_piece d) ps)

abbrev pub AreItemsIn : State → List StepItem → Type 0
AreItemsIn s items = InDesign s (λ d. list_all (λ item. is_typed d item.value) items)

-- a step of some design that the state is of, with some number of counters; several steps; an arm; several arms
pub record IsStepIn (s : State) (one : Step) : Type 0 where
  pub counters : ℕ
  pub formed : InDesign s (λ d. is_step d counters one)

pub record AreStepsIn (s : State) (steps : List Step) : Type 0 where
  pub counters : ℕ
  pub formed : InDesign s (λ d. list_all (is_step d counters) steps)

abbrev pub arm_formed : Design → ℕ → StepArm → Bool
arm_formed d counters arm = list_all (λ item. is_typed d item.value) arm.items && list_all (is_step d counters) arm.body

pub record IsArmIn (s : State) (arm : StepArm) : Type 0 where
  pub counters : ℕ
  pub formed : InDesign s (λ d. arm_formed d counters arm)

pub record AreArmsIn (s : State) (arms : List StepArm) : Type 0 where
  pub counters : ℕ
  pub formed : InDesign s (λ d. list_all (arm_formed d counters) arms)

-- The list has grown by spans in which exactly the wanted bits lie, and which are of the wanted variables.
pub record AddsNamed (vars : List Var) (old new : List Span) (wanted : Bit → Bool) (of : ℕ → Bool) : Type 0 where
  pub more : List Span
  pub behind : new ≡ old ++ more
  pub spans : All (IsSpanOf vars) more
  pub bits : (b : Bit) → IsBitOf vars b → has_bit more b ≡ wanted b
  pub variables : (v : ℕ) → has_var more v ≡ of v

-- the lists have grown by what the events are that a test finds
pub record Gathers (vars : List Var) (old new : Lists) (found : (Event → Bool) → Bool) : Type 0 where
  pub reads : Adds vars old.reads.items new.reads.items (λ b. found (event_reads b))
  pub sets : AddsNamed vars old.sets.items new.sets.items (λ b. found (sets_bit b)) (λ v. found (event_sets v))
  pub defers : AddsNamed vars old.defers.items new.defers.items (λ b. found (defers_bit b)) (λ v. found (event_defers v))

-- all that steps read and write
pub record IsGathered (vars : List Var) (steps : List Step) (u : Uses) : Type 0 where
  pub reads_in : All (IsSpanOf vars) u.reads
  pub sets_in : All (IsSpanOf vars) u.sets
  pub defers_in : All (IsSpanOf vars) u.defers
  pub reads : (b : Bit) → IsBitOf vars b → has_bit u.reads b ≡ some_in_all (event_reads b) steps
  pub sets_bits : (b : Bit) → IsBitOf vars b → has_bit u.sets b ≡ some_in_all (sets_bit b) steps
  pub defers_bits : (b : Bit) → IsBitOf vars b → has_bit u.defers b ≡ some_in_all (defers_bit b) steps
  pub sets : (v : ℕ) → has_var u.sets v ≡ some_in_all (event_sets v) steps
  pub defers : (v : ℕ) → has_var u.defers v ≡ some_in_all (event_defers v) steps
