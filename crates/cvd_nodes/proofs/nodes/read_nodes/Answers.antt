use Rattle.std.proofs.Common.{suc, ◌+◌, ◌-◌, true, false, refl, sym, ◌∙◌, ap, subst, arith}
use Rattle.std.proofs.lemmas.Result.{err_from_is_err_and}
use Rattle.cvd_nodes.specs.Trees.{Keeps, operands}
use Rattle.cvd_nodes.proofs.Trees.{behind, behind_is}
use Rattle.cvd_nodes.proofs.Goes.{Goes, at_first, goes_as, goes_on, refused_node, shorter, holds, takes_nothing}
use Rattle.cvd_nodes.proofs.nodes.read_nodes.Goals as goal

pub loop-pending-init : goal.loop-pending-init
loop-pending-init c = record {
  goes = subst (λ l. Goes c.args.cursor.now c.args.cursor.now 1 true l) (sym c.new-kept.ensures) (at_first c.args.cursor.now);
  room = omega arith;
}

pub returns-in_err-first : goal.returns-in_err-first
returns-in_err-first c =
    let l = c.loop-pending in
    let p = err_from_is_err_and c.from_residual.result c.from_residual.ensures.1 in
    let g = goes_as c.args.cursor.now l.cursor l.pending (suc (l.pending - 1)) l.whole l.whole l.kept (omega arith) refl l.invariant.goes in
    rw (p.1, p.2) (g.refused c.read_node.new.cursor _ (refused_node (l.pending - 1) l.cursor c.read_node.new.cursor _ c.in_err-first.ensures))

pub returns-in_err-whole : goal.returns-in_err-whole
returns-in_err-whole c = let p = err_from_is_err_and c.from_residual-in_err-whole.result c.from_residual-in_err-whole.ensures.1 in rw (p.1, p.2) tt

pub loop-pending-smaller : goal.loop-pending-smaller
loop-pending-smaller c = let n = c.in_ok-first.ensures in shorter c.loop-pending.cursor c.read_node.new.cursor n.0 n.1.0

pub loop-pending-preserved : goal.loop-pending-preserved
loop-pending-preserved c =
    let l = c.loop-pending in
    let old = c.args.cursor.now in
    let mid = c.read_node.new.cursor in
    let k = l.pending - 1 in
    let n = c.in_ok-first.ensures in
    let g = goes_as old l.cursor l.pending (suc k) l.whole l.whole l.kept (omega arith) refl l.invariant.goes in
    let keeps = subst (λ x. Keeps l.kept l.whole x c.in_ok-whole.whole c.keep.new.kept) n.1.1.1 c.in_ok-whole.ensures in
    let next = goes_on old l.cursor mid k l.kept n.0 n.1.0 l.whole c.in_ok-whole.whole c.keep.new.kept g keeps in
    let e = behind_is n.0.0 k ∙ ap (λ x. k + x) (ap operands (sym n.1.1.0) ∙ sym c.operands.ensures.value) in
    let less = shorter l.cursor mid n.0 n.1.0 in
    record {
      goes = goes_as old mid (behind n.0.0 k) (k + c.operands.result) c.in_ok-whole.whole c.in_ok-whole.whole c.keep.new.kept e refl next;
      room = omega (arith, l.invariant.room, c.operands.ensures.most);
    }

pub returns-then-whole : goal.returns-then-whole
returns-then-whole c =
    let l = c.loop-pending in
    let old = c.args.cursor.now in
    let g = goes_as old l.cursor l.pending 0 l.whole true l.kept (omega arith) c.if-whole.true l.invariant.goes in
    (g.tree tt, (g.takes l.cursor tt (takes_nothing l.cursor), holds old l.cursor l.kept g))

pub returns-else-whole : goal.returns-else-whole
returns-else-whole c =
    let l = c.loop-pending in
    let old = c.args.cursor.now in
    let g = goes_as old l.cursor l.pending 0 l.whole false l.kept (omega arith) c.if-whole.false l.invariant.goes in
    (g.tree tt, (g.takes l.cursor tt (takes_nothing l.cursor), λ d small. g.broken refl d tt small))
