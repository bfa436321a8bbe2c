use Rattle.scope_meaning.specs.Declared.{constructs}
use Rattle.elab_counts.proofs.Counts.{step-alone}
use Rattle.elab_counts.proofs.scopes.+construct_count.Goals as goal

pub constructs_in-loop-item-preserved : goal.constructs_in-loop-item-preserved
constructs_in-loop-item-preserved t c =
    step-alone constructs c.args.items.now c.loop-item.item-index c.item-item.result c.loop-item.all c.in_ok-constructs.field-0 c.in_ok-all.all
    c.loop-item-test.true c.item-item.is c.loop-item.invariant c.in_ok-constructs.ensures c.in_ok-all.ensures
