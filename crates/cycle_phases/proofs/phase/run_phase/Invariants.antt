use Rattle.std.proofs.Common.{◌≡◌, ◌-◌, ◌≤◌, length}
use Rattle.cycle_phases.specs.Phases.{runs_in}
use Rattle.cycle_phases.proofs.Turning.{Turning}
use Rattle.cycle_phases.proofs.phase.run_phase.Given as goal

abbrev pub invariant-process : goal.invariant-process
invariant-process g l = record {
  turning : Turning (runs_in l.phase) l.design l.fn.now l.at l.now l.effects l.fn.steps l.steps;
  within : l.at ≤ length l.design.processes;
}

abbrev pub decreases-process : goal.decreases-process
decreases-process g l = length l.design.processes - l.at
