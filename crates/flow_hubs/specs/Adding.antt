-- Rows that have grown.
use Rattle.std.specs.Prelude.{◌≡◌, ℕ, length, ◌⊎◌}
use Rattle.flow_graph.specs.Graph.{Graph, HasEdge}

-- Rows that have all that they had, and in row i each number x that R names, and nothing else.
pub record Adds (old new : Graph) (R : ℕ → ℕ → Type 0) : Type 0 where
  pub as_many : length new ≡ length old
  pub kept : (i x : ℕ) → HasEdge old i x → HasEdge new i x
  pub only : (i x : ℕ) → HasEdge new i x → HasEdge old i x ⊎ R i x
  pub there : (i x : ℕ) → R i x → HasEdge new i x
