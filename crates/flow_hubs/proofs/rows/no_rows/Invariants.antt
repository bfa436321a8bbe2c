use Rattle.std.proofs.Common.{◌≡◌, ℕ, length}
use Rattle.flow_graph.specs.Graph.{HasEdge}
use Rattle.flow_hubs.proofs.rows.no_rows.Given as goal

abbrev pub invariant-loop-at : goal.invariant-loop-at
invariant-loop-at l = record {
  many : length l.rows.items ≡ l._at;
  empty : (i x : ℕ) → HasEdge l.rows.items i x → ⊥;
}
