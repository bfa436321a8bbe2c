use Rattle.std.proofs.Common.{List, subst}
use Rattle.vlog_tree.specs.declared.module.Port.{Port}
use Rattle.flat_clocks.specs.Handings.{AreInputs, handing_of}
use Rattle.flat_clocks.proofs.Puts.{pair_more, pairs_end}
use Rattle.flat_clocks.proofs.handing.put_instance.Goals as goal

pub loop-pair-preserved : goal.loop-pair-preserved
loop-pair-preserved c =
    pair_more (handing_of c.args.making.scopes.now.scopes.items c.args.making.at c.args.making.makes c.args.of.now.ports) c.as_slice-pair-items.result.now
    c.loop-pair.pair-index c.pair-item.result _ c.loop-pair.all.items c.put.new.all.items c.in_ok-handed.handed c.loop-pair-test.true c.pair-item.is
    (c.in_ok-handed.ensures c.args.of.now.ports (subst (λ (ps : List Port). AreInputs ps c.in_ok-inputs.inputs) c.as_slice.ensures c.in_ok-inputs.ensures))
    c.loop-pair.invariant c.in_ok-put.ensures

pub returns : goal.returns
returns c =
    pairs_end (handing_of c.args.making.scopes.now.scopes.items c.args.making.at c.args.making.makes c.args.of.now.ports) c.as_slice-pair-items.result.now
    c.in_ok-connected.connected.items c.loop-pair.pair-index _ _ _ c.loop-pair-test.false c.as_slice-pair-items.ensures.value c.in_ok-connected.ensures
    c.loop-pair.invariant
