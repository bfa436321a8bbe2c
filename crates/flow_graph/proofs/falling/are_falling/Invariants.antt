use Rattle.flow_graph.proofs.Descent.{FallBelow}
use Rattle.flow_graph.proofs.falling.are_falling.Given as goal

abbrev pub invariant-loop-x : goal.invariant-loop-x
invariant-loop-x l = FallBelow l.next l.levels l.x
