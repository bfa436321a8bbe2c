use Rattle.design_meaning.specs.Flow.{IsNotPrivate}
use Rattle.flow_least.specs.First.{KeepsBefore}
use Rattle.flow_drivers.proofs.private.not_private.Given as goal

abbrev pub invariant-loop-at : goal.invariant-loop-at
invariant-loop-at l = KeepsBefore IsNotPrivate l.design l.at
