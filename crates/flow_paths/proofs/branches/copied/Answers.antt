use Rattle.std.proofs.Common.{◌∙◌}
use Rattle.std.proofs.lemmas.List.{take_all}
use Rattle.flow_paths.proofs.branches.copied.Goals as goal

pub returns : goal.returns
returns c = c.loop-spot.invariant ∙ take_all c.loop-spot.spot-index c.args.spots.now c.loop-spot-test.false
