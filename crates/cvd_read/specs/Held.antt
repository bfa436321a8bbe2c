-- What is held of the sections of a design file.
use Rattle.std.specs.Prelude.{◌≡◌, ℕ, List, true}
use Rattle.cov_types.specs.declared.var.Var.{Var}
use Rattle.design_tree.specs.declared.design.Process.{Process}
use Rattle.cvd_text.specs.Lines.{Load, is_within}
use Rattle.cvd_text.specs.Sections.{process_lines, processes_lines}
use Rattle.cvd_step_laws.specs.LineMarks.{load_behind, with_vars}
use Rattle.cvd_section_laws.proofs.Sections.{with_processes}
use Rattle.cvd_section_laws.proofs.Whole.{Inputs, Outputs, Processes, Toggles}
use Rattle.cvd_steps.specs.Bodies.{AreSums}
use Rattle.cvd_read.specs.declared.behaviour.Behaviour.{Behaviour}
use Rattle.cvd_read.specs.declared.entries.Entries.{Entries}
use Rattle.cvd_read.specs.declared.ports.Inside.{Inside}
use Rattle.cvd_read.specs.declared.ports.Outside.{Outside}
use Rattle.cvd_read.specs.declared.process.ReadProcess.{ReadProcess}

-- toggle entries and points
pub record HoldsEntries (parts : Toggles) (held : Entries) : Type 0 where
  pub toggles : held.toggles ≡ parts.0
  pub points : held.points ≡ parts.1.0

-- a process, and what the lines up to its last add up to
pub record HoldsProcess (vars : List Var) (counters : ℕ) (before : Load) (process : Process) (held : ReadProcess) : Type 0 where
  pub process_is : held.process ≡ process
  pub sums_are : AreSums (load_behind before (process_lines (with_vars vars) counters process)) held.sums

-- processes whose lines leave the sums within the limits
pub record HoldsProcesses (vars : List Var) (counters : ℕ) (before : Load) (processes : List Process) (held : List Process) : Type 0 where
  pub same : held ≡ processes
  pub within : is_within (load_behind before (processes_lines (with_processes vars processes) counters)) ≡ true

-- processes, and what stands behind them
pub record HoldsBehaviour (parts : Processes) (held : Behaviour) : Type 0 where
  pub processes : held.processes ≡ parts.0
  pub entries : HoldsEntries parts.1 held.entries

-- outputs, and what stands behind them
pub record HoldsInside (parts : Outputs) (held : Inside) : Type 0 where
  pub outputs : held.outputs ≡ parts.0
  pub behaviour : HoldsBehaviour parts.1 held.behaviour

-- inputs, and what stands behind them
pub record HoldsOutside (parts : Inputs) (held : Outside) : Type 0 where
  pub inputs : held.inputs ≡ parts.0
  pub inside : HoldsInside parts.1 held.inside
