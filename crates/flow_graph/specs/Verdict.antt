-- What a graph is found to have.
use Rattle.flow_graph.specs.declared.answer.Sorted.{Sorted}
use Rattle.flow_graph.specs.declared.answer.Sorted.TheVariants.{Order, Circle}
use Rattle.flow_graph.specs.Graph.{Graph, IsOrder, IsLeastCircle}

-- an order, or else the least circle
abbrev pub IsSorted : Graph → Sorted → Type 0
IsSorted g (Order order) = IsOrder g order
IsSorted g (Circle circle) = IsLeastCircle g circle
