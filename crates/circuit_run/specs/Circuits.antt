-- Numbered variables and processes: what runs of sources and of designs are over.
use Rattle.std.specs.Prelude.{ℕ, Bool, List, map, filter}
use Rattle.std.specs.List.{list_any}
use Rattle.cov_types.specs.declared.kind.ProcessKind.{ProcessKind}
use Rattle.cov_types.specs.declared.var.Var.{Var}
use Rattle.circuit_run.specs.States.{Bit, State}
use Rattle.circuit_run.specs.Outcomes.{Act}

-- a process: what a run of it does, and the bits that its targets name
pub record Process (N : Type 0) : Type 0 where
  pub kind : ProcessKind
  pub run : Act N
  pub drives : Bit → Bool

pub record Circuit (N : Type 0) : Type 0 where
  pub vars : List Var
  pub inputs : List ℕ
  pub outputs : List ℕ
  pub processes : List (Process N)

-- the processes of some kinds, in order
abbrev pub of_kind : {N : Type 0} → (ProcessKind → Bool) → Circuit N → List (Process N)
of_kind sort c = filter (λ p. sort p.kind) c.processes

-- whether some process of these kinds has the bit among those that its targets name
abbrev pub is_driven : {N : Type 0} → (ProcessKind → Bool) → Circuit N → Bit → Bool
is_driven sort c b = list_any (λ p. p.drives b) (of_kind sort c)

-- the states that processes of these kinds leave, each run from this state alone
abbrev pub states_after : {N : Type 0} → (ProcessKind → Bool) → Circuit N → State → List State
states_after sort c s = map (λ p. (p.run s).state) (of_kind sort c)
