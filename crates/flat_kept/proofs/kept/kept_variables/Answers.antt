use Rattle.flat_kept.specs.Kept.{is_kept}
use Rattle.flat_kept.proofs.Steps.{spots_begin, spot_more, all_kept}
use Rattle.flat_kept.proofs.kept.kept_variables.Goals as goal

pub loop-spot-init : goal.loop-spot-init
loop-spot-init c = λ us zip. spots_begin c.args.scopes.now.scopes.items (is_kept c.args.clocks.now c.args.loops.now) _ us zip

pub loop-spot-preserved : goal.loop-spot-preserved
loop-spot-preserved c =
    spot_more c.args.scopes.now.scopes.items (is_kept c.args.clocks.now c.args.loops.now) c.args.spots.now c.loop-spot.spot-index c.spot-item.result _
    c.loop-spot.kept c.put_spot.new.kept c.loop-spot-test.true c.spot-item.is c.loop-spot.invariant c.in_ok-put_spot.ensures

pub returns : goal.returns
returns c =
    all_kept c.args.scopes.now.scopes.items c.args.clocks.now c.args.loops.now c.args.spots.now c.loop-spot.spot-index c.no_variables-kept.result
    c.loop-spot.kept c.loop-spot-test.false c.no_variables-kept.ensures c.loop-spot.invariant
