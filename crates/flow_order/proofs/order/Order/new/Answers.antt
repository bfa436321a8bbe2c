use Rattle.std.proofs.Common.{◌≡◌, sym, subst, ◌<◌, ◌≤◌, length, get_or, List, arith}
use Rattle.design_tree.specs.declared.design.Process.{Process}
use Rattle.flow_uses.specs.declared.uses.Uses.{Uses}
use Rattle.flow_uses.specs.Uses.{AreUsesOf, no_uses}
use Rattle.std.proofs.lemmas.List.{get_or_read}
use Rattle.flow_uses.proofs.Whole.{variables_of}
use Rattle.flow_order.proofs.Keeping.{have_places, reads_are}
use Rattle.flow_order.proofs.order.Order.new.Goals as goal

pub kept_reads-requires : goal.kept_reads-requires
kept_reads-requires c =
    let lt : c.loop-at.at < length c.args.design.now.processes =
    subst (λ (ps : List Process). c.loop-at.at < length ps) c.as_slice-all.ensures c.loop-at-test.true in
    let is : c.index-uses-at.result ≡ get_or c.args.uses.now c.loop-at.at no_uses =
    get_or_read c.args.uses.now c.loop-at.at c.index-uses-at.result (omega (arith, lt, c.requires.many)) c.index-uses-at.is no_uses in
    let uses : AreUsesOf c.args.design.now c.loop-at.at c.index-uses-at.result =
    subst (AreUsesOf c.args.design.now c.loop-at.at) (sym is) (c.requires.uses c.loop-at.at lt) in
    have_places c.args.design.now.vars (variables_of c.args.design.now c.requires.valid) c.index-uses-at.result.reads uses.reads_in

pub returns-clause-reads : goal.returns-clause-reads
returns-clause-reads c =
    reads_are c.args.design.now c.args.uses.now c.loop-at.reads.items c.loop-at.at
    (subst (λ (ps : List Process). length ps ≤ c.loop-at.at) c.as_slice-all.ensures c.loop-at-test.false) c.requires.uses c.loop-at.invariant
