use Rattle.design_meaning.specs.Flow.{HasTwoDrivers}
use Rattle.flow_least.specs.First.{KeepsBefore}
use Rattle.flow_drivers.specs.Driven.{AreBefore}
use Rattle.flow_drivers.proofs.drivers.two_drivers.Given as goal

abbrev pub invariant-loop-at : goal.invariant-loop-at
invariant-loop-at l = record { driven : AreBefore l.design l.at l.driven; kept : KeepsBefore HasTwoDrivers l.design l.at }
