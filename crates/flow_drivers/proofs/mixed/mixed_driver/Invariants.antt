use Rattle.std.proofs.Common.{◌≡◌, length}
use Rattle.design_meaning.specs.Flow.{IsMixed}
use Rattle.flow_least.specs.First.{KeepsBefore}
use Rattle.flow_drivers.specs.Flags.{AreClear}
use Rattle.flow_drivers.proofs.mixed.mixed_driver.Given as goal

abbrev pub invariant-loop-at : goal.invariant-loop-at
invariant-loop-at l = record { many : length l.flags.items ≡ length l.design.vars; clear : AreClear l.flags.items; kept : KeepsBefore IsMixed l.design l.at }
