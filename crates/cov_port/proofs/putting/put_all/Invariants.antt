use Rattle.std.proofs.Common.{◌≡◌, length}
use Rattle.cov_port.specs.Causes.{Both}
use Rattle.cov_port.specs.Sinks.{FrontPut}
use Rattle.cov_port.proofs.putting.put_all.Given as goal

abbrev pub invariant-pieces : goal.invariant-pieces
invariant-pieces g l = record {
  put : Both (FrontPut l.bytes l.left) (g.S.Sink.written l.initial.sink) (g.S.Sink.written l.sink);
  same : g.S.Sink.faults l.sink ≡ g.S.Sink.faults l.initial.sink;
}

abbrev pub decreases-pieces : goal.decreases-pieces
decreases-pieces g l = length l.left
