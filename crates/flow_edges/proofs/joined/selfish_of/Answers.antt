use Rattle.std.proofs.Common.{◌≡◌, ◌∙◌, sym, subst, ap, ◌<◌, arith, Bool, List, length}
use Rattle.circuit_run.specs.Kinds.{is_assign}
use Rattle.design_tree.specs.declared.design.Process.{Process}
use Rattle.flow_edges.proofs.Owned.{kind_read}
use Rattle.flow_edges.proofs.Columns.{AreTold, told_none, told_more}
use Rattle.flow_edges.proofs.joined.selfish_of.Goals as goal

pub loop-p-init : goal.loop-p-init
loop-p-init c = subst (λ (s : List Bool). AreTold c.args.design.now s 0) (sym c.new-selfish.ensures.items) (told_none c.args.design.now)

pub loop-p-preserved : goal.loop-p-preserved
loop-p-preserved c =
    let lt : c.loop-p.p < length c.args.design.now.processes =
    subst (λ (ps : List Process). c.loop-p.p < length ps) c.as_slice-all.ensures c.loop-p-test.true in
    told_more c.args.design.now c.loop-p.selfish.items c.push.new.self.items c.loop-p.p c.is_assign.result c.in_ok-push.ensures.items
    (c.is_assign.ensures
    ∙ ap is_assign (kind_read c.args.design.now c.as_slice-all.result.now c.loop-p.p c.index-all-p.result c.as_slice-all.ensures lt))
    c.loop-p.invariant

pub returns : goal.returns
returns c =
    let count : length c.as_slice-all.result.now ≡ length c.args.design.now.processes =
    ap (λ (ps : List Process). length ps) c.as_slice-all.ensures in
    record {
      many = omega (arith, c.loop-p.invariant.many, c.loop-p-test.false, c.loop-p.auto.p-end, count);
      each = λ p lt. c.loop-p.invariant.each p (omega (arith, lt, c.loop-p-test.false, count));
    }
