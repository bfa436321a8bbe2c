use Rattle.flat_joins.proofs.Steps.{named_more}
use Rattle.flat_joins.proofs.pair.by_name.Goals as goal

pub loop-conn-preserved : goal.loop-conn-preserved
loop-conn-preserved c =
    named_more c.args.conns.now c.loop-conn.conn-index c.conn-item.result c.loop-conn.all.items c.put_named.new.all.items c.loop-conn-test.true c.conn-item.is
    c.loop-conn.invariant c.in_ok-put_named.ensures
