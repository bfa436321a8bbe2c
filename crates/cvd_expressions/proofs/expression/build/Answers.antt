use Rattle.std.proofs.Common.{◌-◌, length, sym, subst, arith}
use Rattle.std.proofs.lemmas.Option.{get_or_from_slice_get}
use Rattle.cvd_expressions.specs.Builds.{Puts}
use Rattle.cvd_expressions.proofs.Building.{Stands, at_first, next, goes_on, refused, last_is}
use Rattle.cvd_expressions.proofs.expression.build.Goals as goal

pub loop-left-init : goal.loop-left-init
loop-left-init c = record {
  within = omega arith;
  goes = λ d t s a. subst (λ l. Stands d c.args.nodes.now (length c.args.nodes.now) l t) (sym c.new-stack.ensures) (at_first d c.args.nodes.now t a);
}

pub loop-left-preserved : goal.loop-left-preserved
loop-left-preserved c = record {
  within = omega (arith, c.loop-left.invariant.within);
  goes = λ d t s a.
      let l = c.loop-left in
      let nodes = c.args.nodes.now in
      let k = l.left - 1 in
      let node = c.node_at-node.result in
      let here = sym (get_or_from_slice_get nodes k node node c.node_at-node.ensures) in
      let st = l.invariant.goes d t s a in
      let b = next d nodes k l.left node l.stack t (omega arith) (omega (arith, l.invariant.within)) here st in
      let q = subst (λ o. Puts d o c.put.new.stack b.mid) c.in-Some.is (c.in_ok-built.ensures d b.mid s st.0 b.last) in
      subst (λ m. Stands d nodes k m t) (sym c.in_ok-push.ensures.ok) (goes_on d nodes k node l.stack c.put.new.stack c.in-Some.built t b q);
}

pub returns-in_default : goal.returns-in_default
returns-in_default c = λ d t s a.
    let l = c.loop-left in
    let nodes = c.args.nodes.now in
    let k = l.left - 1 in
    let node = c.node_at-node.result in
    let here = sym (get_or_from_slice_get nodes k node node c.node_at-node.ensures) in
    let st = l.invariant.goes d t s a in
    let b = next d nodes k l.left node l.stack t (omega arith) (omega (arith, l.invariant.within)) here st in
    let q = subst (λ o. Puts d o c.put.new.stack b.mid) c.in_default.is (c.in_ok-built.ensures d b.mid s st.0 b.last) in
    refused d nodes k node l.stack c.put.new.stack t b q

pub returns : goal.returns
returns c = λ d t s a.
    let l = c.loop-left in
    last_is d c.args.nodes.now l.left l.stack c.pop.new.self t c.pop.result (omega arith) c.pop.ensures (l.invariant.goes d t s a)
