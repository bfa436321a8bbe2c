use Rattle.flow_drivers.specs.Watching.{AreWatched}
use Rattle.flow_drivers.proofs.private.watch_all.Given as goal

abbrev pub invariant-loop-at : goal.invariant-loop-at
invariant-loop-at l = AreWatched l.design l.at l.watches.items
