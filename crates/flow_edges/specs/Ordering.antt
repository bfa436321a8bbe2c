-- What is found of the processes of a design: an order, or a circle.
use Rattle.std.specs.Prelude.{ℕ}
use Rattle.design_tree.specs.declared.design.Design.{Design}
use Rattle.design_meaning.specs.Flow.{IsOnCycle}
use Rattle.design_meaning.specs.FlowFaults.{IsLeastCycle}
use Rattle.design_meaning.specs.Orders.{IsOrder}
use Rattle.flow_graph.specs.declared.answer.Sorted.{Sorted}
use Rattle.flow_graph.specs.declared.answer.Sorted.TheVariants.{Order, Circle}

-- an order of the assignments and combinational processes, where none lies on a circle, or else the circle that begins with
-- the least process on any
abbrev pub IsOrdering : Design → Sorted → Type 0
IsOrdering d (Order order) = IsOrder d order × ((p : ℕ) → IsOnCycle d p → ⊥)
IsOrdering d (Circle circle) = IsLeastCycle d circle
