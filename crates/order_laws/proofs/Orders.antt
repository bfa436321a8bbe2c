-- A design that flows has an order of its assignments and combinational processes.
use Rattle.std.proofs.Common.{ℕ, ◌<◌, List, length}
use Rattle.std.specs.Prelude.{All, AllPairs, Contains}
use Rattle.design_tree.specs.declared.design.Design.{Design}
use Rattle.circuit_run.specs.Kinds.{settles}
use Rattle.design_meaning.specs.Processes.{kind_of}
use Rattle.design_meaning.specs.Flow.{Leads}
use Rattle.design_meaning.specs.FlowFaults.{Flows}
use Rattle.design_meaning.specs.SettledLaws.{FlowHasOrder}
use Rattle.design_meaning.proofs.FlowFacts.{Settling}
use Rattle.order_laws.proofs.Decisions.{told}
use Rattle.order_laws.proofs.Closure.{edge_through, joined}
use Rattle.order_laws.proofs.Sorting.{IsAhead, order}
use Rattle.order_laws.proofs.Circles.{Reaches, reached, circle, settling}

abbrev HasSorted : Design → Type 0
HasSorted d = (xs : List ℕ) × ((p : ℕ) → p < length d.processes → Settling d p → Contains xs p)
    × All (Settling d) xs × AllPairs (IsAhead (Reaches d)) xs

sorted : (d : Design) → Flows d → HasSorted d
sorted d flows = order (Reaches d) (reached d) (length d.processes) (joined (Leads d) (length d.processes)) (λ p h. flows.no_loop p (circle d p h))
    (Settling d) (λ p. told (settles (kind_of d p)))

pub flow_has_order : FlowHasOrder
flow_has_order d flows =
    let o : HasSorted d = sorted d flows in (
      o.0,
      record {
        all = λ p h. o.1 p (settling d p h) h;
        only = o.2;
        once = λ i j e a b. (o.3 i j e a b).apart;
        written_first = λ i j e a b h. (o.3 i j e a b).no_way (edge_through (Leads d) (length d.processes) _ _ h);
      },
    )
