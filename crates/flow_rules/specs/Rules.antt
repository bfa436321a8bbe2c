-- The flow conditions that speak of one process and one variable, and their faults.
use Rattle.std.specs.Prelude.{ℕ}
use Rattle.design_tree.specs.declared.design.Design.{Design}
use Rattle.design_meaning.specs.Flow.{HasTwoDrivers, IsMixed, IsNotPrivate, IsLatch, IsReadBeforeWrite}
use Rattle.design_meaning.specs.FlowFaults.{Keeps, Fault, two_drivers, mixed_driver, not_private, latch, read_before_write}
use Rattle.flow_rules.specs.declared.rules.RuleFault.{RuleFault}
use Rattle.flow_rules.specs.declared.rules.RuleFault.TheVariants as fault

-- they all hold
pub record KeepsRules (d : Design) : Type 0 where
  pub one_driver : Keeps HasTwoDrivers d
  pub not_mixed : Keeps IsMixed d
  pub private : Keeps IsNotPrivate d
  pub no_latch : Keeps IsLatch d
  pub written_first : Keeps IsReadBeforeWrite d

-- a fault as definitions see it
abbrev pub seen : RuleFault → Fault
seen (fault.TwoDrivers p v) = two_drivers p v
seen (fault.MixedDriver p v) = mixed_driver p v
seen (fault.NotPrivate p v) = not_private p v
seen (fault.Latch p v) = latch p v
seen (fault.ReadBeforeWrite p v) = read_before_write p v
