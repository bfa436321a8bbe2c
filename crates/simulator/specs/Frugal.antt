-- How often a cycle ticks at most.
use Rattle.std.specs.Prelude.{ℕ, ◌+◌, ◌≤◌, Bool, length}
use Rattle.design_tree.specs.declared.design.Design.{Design}
use Rattle.circuit_run.specs.States.{State}
use Rattle.circuit_run.specs.Kinds.{runs_at_edge}
use Rattle.design_meaning.specs.Processes.{processes_that}
use Rattle.cycle_settle.specs.Settling.{TicksActive}

-- ticks for active assignments and combinational processes, and then one for each clocked process and cover
pub record IsFrugal (first : Bool) (d : Design) (before now : State) (old new : ℕ) : Type 0 where
  pub settled : ℕ
  pub active : TicksActive first d before now old settled
  pub edge : new ≤ settled + length (processes_that runs_at_edge d)
