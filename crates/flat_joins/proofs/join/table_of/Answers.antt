use Rattle.flat_joins.proofs.Steps.{table_more}
use Rattle.flat_joins.proofs.join.table_of.Goals as goal

pub loop-pair-preserved : goal.loop-pair-preserved
loop-pair-preserved c =
    table_more c.args.all.now c.loop-pair.pair-index c.pair-item.result c.loop-pair.table c.put.new.self c.loop-pair-test.true c.pair-item.is
    c.loop-pair.invariant c.in_ok-put.ensures.ok
