use Rattle.std.proofs.Common.{◌∙◌, ap, subst}
use Rattle.flow_graph.specs.Verdict.{IsSorted}
use Rattle.flow_graph.specs.declared.answer.Sorted.{Sorted}
use Rattle.flow_hubs.specs.Kept.{first_of}
use Rattle.flow_hubs.proofs.answer.sort_first.Goals as goal

pub returns-in_ok-first-in-Order : goal.returns-in_ok-first-in-Order
returns-in_ok-first-in-Order c = (
  c.in-Order.order,
  subst (λ (s : Sorted). IsSorted c.args.next.now s) c.in-Order.is c.in_ok-order.ensures,
  c.in_ok-first-in-Order.ensures ∙ ap (first_of c.args.count) c.as_slice.ensures,
)

pub returns-in_ok-first-in-Circle : goal.returns-in_ok-first-in-Circle
returns-in_ok-first-in-Circle c = (
  c.in-Circle.circle,
  subst (λ (s : Sorted). IsSorted c.args.next.now s) c.in-Circle.is c.in_ok-order.ensures,
  c.in_ok-first-in-Circle.ensures ∙ ap (first_of c.args.count) c.as_slice-in-Circle.ensures,
)
