use Rattle.std.proofs.Common.{sym, subst, ℕ, ◌<◌, List, length, get_or, Option}
use Rattle.std.specs.Prelude.{IfNone}
use Rattle.design_meaning.specs.Orders.{IsOrder}
use Rattle.flow_graph.specs.declared.answer.Sorted.{Sorted}
use Rattle.flow_graph.specs.declared.answer.Sorted.TheVariants.{Order}
use Rattle.flow_uses.specs.declared.uses.Uses.{Uses}
use Rattle.flow_uses.specs.Uses.{AreUsesOf, no_uses}
use Rattle.flow_edges.specs.Ordering.{IsOrdering}
use Rattle.flow_rules.specs.declared.rules.RuleFault.{RuleFault}
use Rattle.flow_rules.specs.Rules.{KeepsRules}
use Rattle.flow_check.proofs.Kept.{flows_so}
use Rattle.flow_check.proofs.verdict.check.Goals as goal

pub broken_rule-requires-clause-uses : goal.broken_rule-requires-clause-uses
broken_rule-requires-clause-uses c =
    subst (λ (us : List Uses). (p : ℕ) → p < length c.args.design.now.processes → AreUsesOf c.args.design.now p (get_or us p no_uses))
    (sym c.as_slice.ensures.value) c.in_ok-uses.ensures.uses

pub order_of-requires-clause-uses : goal.order_of-requires-clause-uses
order_of-requires-clause-uses c =
    subst (λ (us : List Uses). (p : ℕ) → p < length c.args.design.now.processes → AreUsesOf c.args.design.now p (get_or us p no_uses))
    (sym c.as_slice-2.ensures.value) c.in_ok-uses.ensures.uses

pub new-requires-clause-uses : goal.new-requires-clause-uses
new-requires-clause-uses c =
    subst (λ (us : List Uses). (p : ℕ) → p < length c.args.design.now.processes → AreUsesOf c.args.design.now p (get_or us p no_uses))
    (sym c.as_slice-in-Order.ensures.value) c.in_ok-uses.ensures.uses

pub returns-clause-flows : goal.returns-clause-flows
returns-clause-flows c =
    let sorted : IsOrdering c.args.design.now (Order c.in-Order.processes) =
    subst (λ (s : Sorted). IsOrdering c.args.design.now s) c.in-Order.is c.in_ok-cycle.ensures in
    let kept : KeepsRules c.args.design.now =
    subst (λ (f : Option RuleFault). IfNone f (KeepsRules c.args.design.now)) c.in_default.is c.in_ok-rule.ensures.kept in (
      flows_so c.args.design.now kept sorted.1,
      subst (λ (order : List ℕ). IsOrder c.args.design.now order) (sym c.in_ok-order-in-Order.ensures.processes) sorted.0,
    )

pub returns-clause-settles : goal.returns-clause-settles
returns-clause-settles c =
    let sorted : IsOrdering c.args.design.now (Order c.in-Order.processes) =
    subst (λ (s : Sorted). IsOrdering c.args.design.now s) c.in-Order.is c.in_ok-cycle.ensures in
    let kept : KeepsRules c.args.design.now =
    subst (λ (f : Option RuleFault). IfNone f (KeepsRules c.args.design.now)) c.in_default.is c.in_ok-rule.ensures.kept in
    c.settles_once.ensures.once c.args.design.now c.in-Order.processes c.requires.valid (flows_so c.args.design.now kept sorted.1) sorted.0
