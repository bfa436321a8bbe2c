-- The conditions on paths, and what a walk over a process finds of them.
use Rattle.std.specs.Prelude.{◌≡◌, ℕ, Bool, true, false, Option, Some, None, List, []}
use Rattle.cov_types.specs.declared.var.Var.{Var}
use Rattle.design_tree.specs.declared.step.Step.{Step}
use Rattle.design_tree.specs.declared.design.Design.{Design}
use Rattle.circuit_run.specs.States.{Bit, IsBitOf}
use Rattle.cov_types.specs.declared.kind.ProcessKind.{ProcessKind}
use Rattle.cov_types.specs.declared.kind.ProcessKind.TheVariants as kind
use Rattle.flow_least.specs.declared.place.Place.{Place}
use Rattle.flow_least.specs.First.{KeepsBefore}
use Rattle.design_meaning.specs.Flow.{Condition, IsLatch, IsReadBeforeWrite}
use Rattle.design_meaning.specs.FlowFaults.{Keeps, IsLeast}
use Rattle.flow_uses.specs.declared.uses.Uses.{Uses}
use Rattle.flow_least.specs.Least.{IsLeastOf}
use Rattle.flow_least.specs.Met.{is_driven}
use Rattle.flow_paths.specs.declared.walk.Walk.{Walk}
use Rattle.flow_paths.specs.declared.faults.PathFault.{PathFault}
use Rattle.flow_paths.specs.declared.faults.PathFault.TheVariants as fault
use Rattle.flow_paths.specs.Walking.{IsReady, IsEmpty, always_steps, early_steps}

-- both conditions on paths hold
pub record KeepsPaths (d : Design) : Type 0 where
  pub no_latch : Keeps IsLatch d
  pub written_first : Keeps IsReadBeforeWrite d

-- a fault: the second condition counts where the first holds
abbrev pub IsPathFault : Design → PathFault → Type 0
IsPathFault d (fault.Latch p v) = IsLeast IsLatch d p v
IsPathFault d (fault.ReadBeforeWrite p v) = Keeps IsLatch d × IsLeast IsReadBeforeWrite d p v

-- Private: nothing is left and nothing was taken
pub record IsFresh (vars : List Var) (w : Walk) : Type 0 where
  pub ready : IsReady vars w
  pub none : IsEmpty w.left
  pub trail : w.trail.items ≡ []

-- a bit of the variable is driven, and left unwritten on some path; read on some path before it is written
pub record IsKeptIn (vars : List Var) (u : Uses) (steps : List Step) (v : ℕ) : Type 0 where
  pub kept : Bit
  pub of_variable : kept.var ≡ v
  pub here : IsBitOf vars kept
  pub driven : is_driven u kept ≡ true
  pub unwritten : always_steps steps kept ≡ false

pub record IsEarlyIn (vars : List Var) (u : Uses) (steps : List Step) (v : ℕ) : Type 0 where
  pub early : Bit
  pub of_variable : early.var ≡ v
  pub here : IsBitOf vars early
  pub driven : is_driven u early ≡ true
  pub read : early_steps steps early ≡ true

pub record IsWalked (vars : List Var) (u : Uses) (steps : List Step) (w : Walk) (found : Option ℕ) : Type 0 where
  pub latch : IsLeastOf (IsKeptIn vars u steps) found
  pub early : IsLeastOf (IsEarlyIn vars u steps) w.early
  pub fresh : found ≡ None → IsFresh vars w

-- the place that was found before, else that of this process
abbrev pub first_of : Option Place → ProcessKind → ℕ → Option ℕ → Option Place
first_of (Some x) k p found = Some x
first_of None kind.Comb p None = None
first_of None kind.Comb p (Some v) = Some (record { process = p; var = v })
first_of None kind.Assign p found = None
first_of None kind.Clocked p found = None
first_of None kind.Initial p found = None
first_of None kind.Cover p found = None

-- the first place where a condition fails, among the processes before that of a number
abbrev pub IsFirstBefore : Condition → Design → ℕ → Option Place → Type 0
IsFirstBefore Fails d p None = KeepsBefore Fails d p
IsFirstBefore Fails d p (Some x) = IsLeast Fails d x.process x.var
