-- How far a walk has come that lists each vertex after its successors.
use Rattle.std.specs.Prelude.{◌≡◌, ◌≢◌, ℕ, ◌<◌, ◌≤◌, List, [], ◌∷◌, length, slice_index, slice_index_or, Contains}
use Rattle.flow_graph.specs.declared.order.Mark.{Mark}
use Rattle.flow_graph.specs.declared.order.Mark.TheVariants.{New, Open, Listed}
use Rattle.flow_graph.specs.declared.order.Walked.{Walked}
use Rattle.flow_graph.specs.declared.order.Walked.TheVariants.{All, CircleFrom}
use Rattle.flow_graph.specs.Graph.{Graph, next_of, HasEdge, IsOnCircle}

-- each of the list is a successor of the one before, which is p at first
abbrev pub Trail : Graph → ℕ → List ℕ → Type 0
Trail g p [] = Unit {0}
Trail g p (q ∷ qs) = HasEdge g p q × Trail g q qs

abbrev pub IsPath : Graph → List ℕ → Type 0
IsPath g [] = Unit {0}
IsPath g (p ∷ qs) = Trail g p qs

-- each vertex of the list stands once, after all its successors
pub record IsListed (g : Graph) (post : List ℕ) : Type 0 where
  pub inside : (k : ℕ) → k < length post → slice_index post k < length g
  pub once : (j k : ℕ) → j < k → k < length post → slice_index post j ≢ slice_index post k
  pub sorted : (k y : ℕ) → k < length post → HasEdge g (slice_index post k) y → (j : ℕ) × (j < k) × (slice_index post j ≡ y)

-- The walk stands at the end of a path of open vertices; of each vertex so many successors are passed, and those are listed.
pub record IsWalk (g : Graph) (path cursor : List ℕ) (marks : List Mark) (post : List ℕ) : Type 0 where
  pub cursors : length cursor ≡ length g
  pub each_marked : length marks ≡ length g
  pub trail : IsPath g path
  pub places : (k : ℕ) → k < length path → slice_index path k < length g
  pub bound : (x : ℕ) → slice_index cursor x ≤ length (next_of g x)
  pub passed : (x j : ℕ) → j < slice_index cursor x → Contains post (slice_index (next_of g x) j)
  pub opened : (x : ℕ) → slice_index_or marks x New ≡ Open → Contains path x
  pub done : (x : ℕ) → slice_index_or marks x New ≡ Listed → Contains post x
  pub listed : (k : ℕ) → k < length post → slice_index_or marks (slice_index post k) New ≡ Listed
  pub list : IsListed g post

-- each vertex is listed, or there is a circle, but none through a vertex below the root
abbrev pub IsWalked : Graph → Walked → Type 0
IsWalked g (All post) = IsListed g post.items × ((p : ℕ) → p < length g → Contains post.items p)
IsWalked g (CircleFrom root) = ((p : ℕ) × IsOnCircle g p) × ((q : ℕ) → q < root → IsOnCircle g q → ⊥)
