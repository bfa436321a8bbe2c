use Rattle.std.proofs.Common.{sym, ◌∙◌, subst, arith}
use Rattle.std.proofs.lemmas.Bool.{true≢false}
use Rattle.cvd_targets.specs.TargetParts.{TargetsIn}
use Rattle.cvd_targets.specs.Positions.{ExpressionIn}
use Rattle.cvd_targets.proofs.Lists.{never, over, exactly}
use Rattle.cvd_targets.proofs.Assignments.{assign_stands, assign_parts, value_stands, targets_stand, same_number, test_same}
use Rattle.cvd_targets.proofs.assigned.assigned_of.Goals as goal

pub returns-in_default : goal.returns-in_default
returns-in_default c = λ d k p h i.
    never _ (λ e. true≢false (sym (value_stands d k p (assign_parts d k p e)) ∙ subst (ExpressionIn d p.1) c.in_default.is i))

pub returns-in_default-targets : goal.returns-in_default-targets
returns-in_default-targets c = λ d k p h i.
    let x = subst (ExpressionIn d p.1) c.in-Some.is i in
    never _ (λ e.
    let q = assign_parts d k p e in
    true≢false (sym (targets_stand d k p q (omega (arith, q.wide, x.width_is, c.wide-width.ensures.value, c.wide-width.ensures.small)))
    ∙ subst (TargetsIn d k p.0) c.in_default-targets.is h))

pub returns-then-not-is_width : goal.returns-then-not-is_width
returns-then-not-is_width c = λ d k p h i.
    let x = subst (ExpressionIn d p.1) c.in-Some.is i in
    let t = subst (TargetsIn d k p.0) c.in-Some-targets.is h in
    never _ (λ e.
    let q = assign_parts d k p e in
    let same = test_same c.in-Some-targets.targets.width c.wide-width.result
    (t.width_is ∙ q.wide ∙ sym x.width_is ∙ sym c.wide-width.ensures.value) in
    true≢false (sym same ∙ sym c.is_width.ensures ∙ c.if-not-is_width.true))

pub returns-then-nodes-gt-MOST : goal.returns-then-nodes-gt-MOST
returns-then-nodes-gt-MOST c = λ d k p h i.
    let x = subst (ExpressionIn d p.1) c.in-Some.is i in
    let t = subst (TargetsIn d k p.0) c.in-Some-targets.is h in
    never _ (λ e.
    let q = assign_parts d k p e in
    let more = over c.in-Some-targets.targets.nodes c.in-Some.value.nodes _ 4194304 c.saturating_add-nodes.ensures (omega arith) in
    absurd (omega (arith, q.sum, t.nodes_are, x.nodes_are)))

pub returns : goal.returns
returns c = λ d k p h i.
    let x = subst (ExpressionIn d p.1) c.in-Some.is i in
    let t = subst (TargetsIn d k p.0) c.in-Some-targets.is h in
    let exact = exactly c.in-Some-targets.targets.nodes c.in-Some.value.nodes _ 4194304 c.saturating_add-nodes.ensures (omega arith) (omega arith) in
    record {
      targets_are = t.items_are;
      value_is = x.tree_is;
      nodes_are = omega (arith, t.nodes_are, x.nodes_are);
      stands = assign_stands d k p t.stand x.stands (sym t.width_is ∙ same_number _ _ (sym c.is_width.ensures ∙ c.if-not-is_width.false)
          ∙ c.wide-width.ensures.value ∙ x.width_is) (omega (arith, t.nodes_are, x.nodes_are));
    }
