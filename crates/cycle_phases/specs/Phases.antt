-- The phases of a run, and the processes that run in each.
use Rattle.std.specs.Prelude.{ℕ, Bool, map}
use Rattle.cov_types.specs.declared.kind.ProcessKind.{ProcessKind}
use Rattle.design_tree.specs.declared.design.Design.{Design}
use Rattle.circuit_run.specs.Outcomes.{Act, in_turn}
use Rattle.circuit_run.specs.Kinds.{is_initial, runs_at_edge}
use Rattle.design_meaning.specs.Steps.{run_of}
use Rattle.design_meaning.specs.Processes.{processes_that}
use Rattle.cycle_phases.specs.declared.phase.Phase.{Phase}
use Rattle.cycle_phases.specs.declared.phase.Phase.TheVariants as phase

-- the initial processes at the start, clocked processes and covers at the edge
abbrev pub runs_in : Phase → ProcessKind → Bool
runs_in phase.Start = is_initial
runs_in phase.Edge = runs_at_edge

-- the processes of some kinds, run one after the other
abbrev pub turns : (ProcessKind → Bool) → Design → Act ℕ
turns sort d = in_turn (map run_of (processes_that sort d))
