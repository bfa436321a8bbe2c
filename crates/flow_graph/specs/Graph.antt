-- Circles and orders of a graph, which is given by the list of the successors of each vertex. This project's own.
use Rattle.std.specs.Prelude.{◌≡◌, ◌≢◌, ℕ, ◌<◌, List, [], ◌∷◌, length, slice_index_or, All, AllPairs, Contains}

abbrev pub Graph : Type 0
Graph = List (List ℕ)

-- the successors of a vertex; past the last vertex there are none
abbrev pub next_of : Graph → ℕ → List ℕ
next_of g p = slice_index_or g p []

abbrev pub HasEdge : Graph → ℕ → ℕ → Type 0
HasEdge g p q = Contains (next_of g p) q

-- each successor is a vertex
abbrev pub IsGraph : Graph → Type 0
IsGraph g = All (λ row. All (λ q. q < length g) row) g

-- an edge from p to the first of the list, from each to the next, and from the last to the end
abbrev pub Chain : Graph → ℕ → List ℕ → ℕ → Type 0
Chain g p [] end = HasEdge g p end
Chain g p (q ∷ qs) end = HasEdge g p q × Chain g q qs end

-- the list begins with p, and its edges lead round in a circle
abbrev pub IsCircleFrom : Graph → ℕ → List ℕ → Type 0
IsCircleFrom g p [] = ⊥
IsCircleFrom g p (q ∷ qs) = (q ≡ p) × Chain g p qs p

abbrev pub IsOnCircle : Graph → ℕ → Type 0
IsOnCircle g p = (circle : List ℕ) × IsCircleFrom g p circle

-- a circle that begins with the least vertex on any
pub record IsLeastCircle (g : Graph) (circle : List ℕ) : Type 0 where
  pub first : ℕ
  pub begins : IsCircleFrom g first circle
  pub least : (q : ℕ) → q < first → IsOnCircle g q → ⊥

-- each vertex once, after all those that have an edge to it; so none has an edge to itself
pub record IsOrder (g : Graph) (order : List ℕ) : Type 0 where
  pub all : (p : ℕ) → p < length g → Contains order p
  pub only : All (λ p. p < length g) order
  pub once : AllPairs (λ p q. p ≢ q) order
  pub forward : AllPairs (λ p q. HasEdge g q p → ⊥) order
  pub apart : (p : ℕ) → HasEdge g p p → ⊥
