use Rattle.flat_clocks.proofs.Puts.{spot_more}
use Rattle.flat_clocks.proofs.handing.handings.Goals as goal

pub loop-spot-preserved : goal.loop-spot-preserved
loop-spot-preserved c =
    spot_more c.args.scopes.now.scopes.items c.args.spots.now c.loop-spot.spot-index c.spot-item.result c.loop-spot.all.items c.put_spot.new.all.items
    c.loop-spot-test.true c.spot-item.is c.loop-spot.invariant c.in_ok-put_spot.ensures
