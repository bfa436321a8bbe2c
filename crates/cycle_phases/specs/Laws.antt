-- What the processes of a phase leave, run one after the other.
use Rattle.std.specs.Prelude.{◌≡◌, ℕ, ◌<◌, Bool, false, length, IsTrue}
use Rattle.cov_types.specs.declared.kind.ProcessKind.{ProcessKind}
use Rattle.design_tree.specs.declared.design.Design.{Design}
use Rattle.circuit_run.specs.States.{State, Bit, bit}
use Rattle.circuit_run.specs.Writes.{all_written}
use Rattle.circuit_run.specs.Outcomes.{Outcome}
use Rattle.circuit_run.specs.Kinds.{runs_at_edge}
use Rattle.circuit_run.specs.Edges.{IsEdge, edge_text, edge_notes, edge_finished, edge_stopped}
use Rattle.design_meaning.specs.States.{IsBitOf, IsStateOf}
use Rattle.design_meaning.specs.Processes.{kind_of}
use Rattle.design_meaning.specs.Reach.{drives}
use Rattle.design_meaning.specs.Circuit.{circuit_of}
use Rattle.design_meaning.specs.Valid.{IsValidDesign}
use Rattle.design_meaning.specs.FlowFaults.{Flows}
use Rattle.cycle_phases.specs.Phases.{turns}

-- an outcome is that of the edge of a settled state
pub record IsEdgeOutcome (d : Design) (s : State) (o : Outcome ℕ) : Type 0 where
  pub edge : IsEdge (circuit_of d) s (all_written o.state o.updates)
  pub text : o.text ≡ edge_text (circuit_of d) s
  pub raised : o.notes ≡ edge_notes (circuit_of d) s
  pub finished : o.finished ≡ edge_finished (circuit_of d) s
  pub stopped : o.stopped ≡ edge_stopped (circuit_of d) s

-- in a design that flows the clocked processes and covers do one after the other what they do each from the settled state
abbrev pub EdgeInTurn : Type 0
EdgeInTurn = (d : Design) (s : State) → IsValidDesign d → Flows d → IsStateOf d s → IsEdgeOutcome d s (turns runs_at_edge d s)

-- the processes of some kinds leave each bit alone, with their updates, that none of them drives
abbrev pub PhasesLeave : Type 0
PhasesLeave = (d : Design) (sort : ProcessKind → Bool) (s : State) (b : Bit) → IsValidDesign d → IsStateOf d s → IsBitOf d b
    → ((p : ℕ) → p < length d.processes → IsTrue (sort (kind_of d p)) → drives d p b ≡ false)
    → bit (all_written (turns sort d s).state (turns sort d s).updates) b ≡ bit s b
