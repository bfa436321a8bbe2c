use Rattle.cycle_phases.proofs.Edge.{edge_in_turn}
use Rattle.cycle_phases.proofs.Leave.{phases_leave}
use Rattle.cycle_phases.proofs.laws.edge_runs_in_turn.Goals as goal

pub returns-clause-edge : goal.returns-clause-edge
returns-clause-edge c = edge_in_turn

pub returns-clause-leaves : goal.returns-clause-leaves
returns-clause-leaves c = phases_leave
