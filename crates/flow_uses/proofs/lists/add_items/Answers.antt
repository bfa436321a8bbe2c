use Rattle.std.proofs.Common.{false, refl}
use Rattle.design_meaning.specs.Spans.{is_in_any}
use Rattle.design_meaning.specs.Paths.{item_reads}
use Rattle.flow_spans.proofs.Adding.{adds_none}
use Rattle.flow_uses.proofs.Formed.{one_item}
use Rattle.flow_uses.proofs.Gathering as gathering
use Rattle.flow_uses.proofs.lists.add_items.Goals as goal

pub loop-item-init : goal.loop-item-init
loop-item-init c = adds_none c.args.vars.now c.args.reads.now.items (λ b. false) (λ b. refl)

pub expression_reads-requires-clause-typed : goal.expression_reads-requires-clause-typed
expression_reads-requires-clause-typed c = one_item c.args.state.now c.args.items.now c.loop-item.item-index c.item-item.result c.loop-item-test.true
    c.item-item.is c.requires.items

pub loop-item-preserved : goal.loop-item-preserved
loop-item-preserved c = gathering.adds_next c.args.vars.now c.args.reads.now.items c.loop-item.reads.items c.expression_reads.new.out.items (λ item b.
    is_in_any b (item_reads item))
    c.args.items.now c.loop-item.item-index c.item-item.result c.loop-item-test.true c.item-item.is c.loop-item.invariant c.in_ok-expression_reads.ensures

pub returns : goal.returns
returns c = gathering.adds_end c.args.vars.now c.args.reads.now.items c.loop-item.reads.items (λ item b. is_in_any b (item_reads item)) c.args.items.now
    c.loop-item.item-index
    c.loop-item-test.false c.loop-item.invariant
