use Rattle.std.proofs.Common.{◌≡◌, ◌∙◌, sym, subst, ap, ◌<◌, ℕ, List, length}
use Rattle.std.specs.Prelude.{All, filter}
use Rattle.circuit_run.specs.Kinds.{settles}
use Rattle.design_meaning.specs.Processes.{kind_of}
use Rattle.design_meaning.specs.Flow.{Leads}
use Rattle.design_meaning.specs.Orders.{IsOrder}
use Rattle.flow_graph.specs.Graph.{Graph, IsGraph}
use Rattle.flow_graph.specs.declared.answer.Sorted.{Sorted}
use Rattle.flow_graph.specs.declared.answer.Sorted.TheVariants.{Order, Circle}
use Rattle.flow_hubs.specs.Kept.{IsKept}
use Rattle.flow_hubs.proofs.Firsts.{IsLeastOf, IsOrderOf, is_graph, least_of, order_of}
use Rattle.flow_edges.proofs.Ordered.{order_is, none_circular, cycle_is}
use Rattle.flow_edges.proofs.answer.order_of.Goals as goal

pub sort_first-requires-clause-graph : goal.sort_first-requires-clause-graph
sort_first-requires-clause-graph c =
    subst (λ (g : Graph). IsGraph g) (sym c.as_slice.ensures.value)
    (is_graph (length c.args.design.now.processes) (Leads c.args.design.now) c.in_ok-next.next.items c.in_ok-next.ensures.stands)

pub settling-requires : goal.settling-requires
settling-requires c =
    let n : ℕ = length c.args.design.now.processes in
    let kept : IsKept n c.in_ok-next.next.items (Order c.in-Order.order) =
    subst (λ (s : Sorted). IsKept n c.in_ok-next.next.items s) c.in-Order.is
    (rw (c.as_slice.ensures.value, c.len.ensures) at c.in_ok-order.ensures) in
    let sorted : IsOrderOf n (Leads c.args.design.now) c.in-Order.order =
    subst (λ (order : List ℕ). IsOrderOf n (Leads c.args.design.now) order) (sym kept.2)
    (order_of n (Leads c.args.design.now) c.in_ok-next.next.items c.in_ok-next.ensures.stands kept.0 kept.1) in
    subst (λ (order : List ℕ). All (λ p. p < n) order) (sym c.as_slice-in-Order.ensures) sorted.only

pub returns-in-Order : goal.returns-in-Order
returns-in-Order c =
    let n : ℕ = length c.args.design.now.processes in
    let kept : IsKept n c.in_ok-next.next.items (Order c.in-Order.order) =
    subst (λ (s : Sorted). IsKept n c.in_ok-next.next.items s) c.in-Order.is
    (rw (c.as_slice.ensures.value, c.len.ensures) at c.in_ok-order.ensures) in
    let sorted : IsOrderOf n (Leads c.args.design.now) c.in-Order.order =
    subst (λ (order : List ℕ). IsOrderOf n (Leads c.args.design.now) order) (sym kept.2)
    (order_of n (Leads c.args.design.now) c.in_ok-next.next.items c.in_ok-next.ensures.stands kept.0 kept.1) in
    let settled : c.in_ok-settling-in-Order.field-0 ≡ filter (λ p. settles (kind_of c.args.design.now p)) c.in-Order.order =
    c.in_ok-settling-in-Order.ensures
    ∙ ap (λ (order : List ℕ). filter (λ p. settles (kind_of c.args.design.now p)) order) c.as_slice-in-Order.ensures in (
      subst (λ (order : List ℕ). IsOrder c.args.design.now order) (sym settled) (order_is c.args.design.now c.in-Order.order sorted),
      none_circular c.args.design.now c.in-Order.order sorted,
    )

pub returns : goal.returns
returns c =
    let n : ℕ = length c.args.design.now.processes in
    let kept : IsKept n c.in_ok-next.next.items (Circle c.in-Circle.circle) =
    subst (λ (s : Sorted). IsKept n c.in_ok-next.next.items s) c.in-Circle.is
    (rw (c.as_slice.ensures.value, c.len.ensures) at c.in_ok-order.ensures) in
    cycle_is c.args.design.now c.in-Circle.circle
    (subst (λ (circle : List ℕ). IsLeastOf (Leads c.args.design.now) circle) (sym kept.2)
    (least_of n (Leads c.args.design.now) c.in_ok-next.next.items c.in_ok-next.ensures.stands kept.0 kept.1))
