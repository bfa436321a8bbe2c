use Rattle.design_meaning.specs.Flow.{IsLatch, IsReadBeforeWrite}
use Rattle.flow_least.specs.First.{KeepsBefore}
use Rattle.flow_paths.specs.Faults.{IsFresh, IsFirstBefore}
use Rattle.flow_paths.proofs.faults.path_fault.Given as goal

abbrev pub invariant-loop-at : goal.invariant-loop-at
invariant-loop-at l = record {
  fresh : IsFresh l.design.vars l.walk;
  no_latch : KeepsBefore IsLatch l.design l.at;
  early : IsFirstBefore IsReadBeforeWrite l.design l.at l.early;
}
