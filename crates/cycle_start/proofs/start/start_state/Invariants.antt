use Rattle.std.proofs.Common.{◌≡◌}
use Rattle.cycle_start.proofs.Starts.{IsStarting}
use Rattle.cycle_start.proofs.start.start_state.Given as goal

abbrev pub invariant-loop-at : goal.invariant-loop-at
invariant-loop-at l = record {
  starting : IsStarting l.design l.at l.state;
  same : l.process-items ≡ l.design.processes;
}
