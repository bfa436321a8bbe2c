-- Levels of the vertices of a graph.
use Rattle.std.specs.Prelude.{ℕ, ◌≤◌, List, slice_index}
use Rattle.flow_graph.specs.Graph.{Graph, HasEdge}

-- no edge leads to a higher level
abbrev pub AreFalling : Graph → List ℕ → Type 0
AreFalling g levels = (x y : ℕ) → HasEdge g x y → slice_index levels y ≤ slice_index levels x
