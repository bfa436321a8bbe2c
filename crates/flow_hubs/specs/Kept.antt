-- What a graph is found to have, with its first vertices alone.
use Rattle.std.specs.Prelude.{◌≡◌, ℕ, List, nat_lt, filter}
use Rattle.flow_graph.specs.declared.answer.Sorted.{Sorted}
use Rattle.flow_graph.specs.declared.answer.Sorted.TheVariants.{Order, Circle}
use Rattle.flow_graph.specs.Graph.{Graph, IsOrder, IsLeastCircle}

-- those of the first n vertices
abbrev pub first_of : ℕ → List ℕ → List ℕ
first_of n xs = filter (λ x. nat_lt x n) xs

-- an order of the graph, or its least circle, of which the first n vertices were kept
abbrev pub IsKept : ℕ → Graph → Sorted → Type 0
IsKept n g (Order order) = (all : List ℕ) × IsOrder g all × (order ≡ first_of n all)
IsKept n g (Circle circle) = (all : List ℕ) × IsLeastCircle g all × (circle ≡ first_of n all)
