use Rattle.std.proofs.Common.{◌<◌, ℕ}
use Rattle.flow_graph.specs.Graph.{IsOnCircle}
use Rattle.flow_graph.proofs.answer.least_circle.Given as goal

abbrev pub invariant-loop-p : goal.invariant-loop-p
invariant-loop-p l = (q : ℕ) → q < l.p → IsOnCircle l.next q → ⊥
