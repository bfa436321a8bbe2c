-- Edges from each driver to each reader, made of one edge for each driver and one for each reader.
use Rattle.std.specs.Prelude.{◌≡◌, ◌≢◌, ℕ, ◌<◌, ◌≤◌, ◌⊎◌, Bool, true, false, List, [], ◌∷◌, ◌++◌, length, slice_index_or, Contains}
use Rattle.flow_graph.specs.Graph.{Graph, HasEdge}
use Rattle.flow_hubs.specs.Adding.{Adds}

-- no vertex is marked
abbrev pub IsClear : List Bool → Type 0
IsClear marks = (x : ℕ) → slice_index_or marks x false ≡ false

-- a driver leads to each reader, and to itself only where it may
abbrev pub Through : List ℕ → List ℕ → List Bool → ℕ → ℕ → Type 0
Through drivers readers selfish p q = Contains drivers p × Contains readers q × ((p ≢ q) ⊎ (slice_index_or selfish p false ≡ true))

-- a vertex both drives and reads, and may not lead to itself
pub record IsShared (drivers readers : List ℕ) (selfish : List Bool) (x : ℕ) : Type 0 where
  pub driver : Contains drivers x
  pub reader : Contains readers x
  pub apart : slice_index_or selfish x false ≡ false

-- an edge to the hub from a driver, or from it to a reader, and none from the hub to itself
abbrev pub AtHub : List ℕ → List ℕ → ℕ → ℕ → ℕ → Type 0
AtHub drivers readers hub i x = (i ≢ x) × ((Contains drivers i × (x ≡ hub)) ⊎ ((i ≡ hub) × Contains readers x))

-- the graph has got these edges, and a vertex that is shared is their hub
pub record JoinsShared (old new : Graph) (drivers readers : List ℕ) (selfish : List Bool) : Type 0 where
  pub hub : ℕ
  pub shared : IsShared drivers readers selfish hub
  pub adds : Adds old new (AtHub drivers readers hub)

-- the same with a new vertex, where none is shared
pub record JoinsNew (old new : Graph) (drivers readers : List ℕ) (selfish : List Bool) : Type 0 where
  pub none : (x : ℕ) → IsShared drivers readers selfish x → ⊥
  pub adds : Adds (old ++ [] ∷ []) new (AtHub drivers readers (length old))

-- it is as it was, where there are no such edges
pub record JoinsNone (old new : Graph) (drivers readers : List ℕ) (selfish : List Bool) : Type 0 where
  pub none : (p q : ℕ) → Through drivers readers selfish p q → ⊥
  pub same : new ≡ old

abbrev pub Joins : Graph → Graph → List ℕ → List ℕ → List Bool → Type 0
Joins old new drivers readers selfish =
    JoinsNone old new drivers readers selfish ⊎ (JoinsShared old new drivers readers selfish ⊎ JoinsNew old new drivers readers selfish)

-- Of a graph the first so many vertices lead to one another as a relation says: directly, or through one of the vertices behind
-- them. An edge from one of those comes back.
pub record Stands (n : ℕ) (L : ℕ → ℕ → Type 0) (g : Graph) : Type 0 where
  pub many : n ≤ length g
  pub ends : (i x : ℕ) → HasEdge g i x → x < length g
  pub inner : (p q : ℕ) → p < n → q < n → HasEdge g p q → L p q
  pub through : (p v q : ℕ) → p < n → n ≤ v → HasEdge g p v → HasEdge g v q → L p q
  pub back : (v q : ℕ) → n ≤ v → HasEdge g v q → q < n
  pub inside : (p q : ℕ) → L p q → (p < n) × (q < n)
  pub way : (p q : ℕ) → L p q → HasEdge g p q ⊎ ((v : ℕ) × HasEdge g p v × HasEdge g v q)
