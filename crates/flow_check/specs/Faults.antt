-- The faults of the flow check.
use Rattle.design_tree.specs.declared.design.Design.{Design}
use Rattle.design_meaning.specs.FlowFaults as fault
use Rattle.flow_rules.specs.declared.rules.RuleFault.{RuleFault}
use Rattle.flow_rules.specs.declared.rules.RuleFault.TheVariants as rule
use Rattle.flow_check.specs.declared.fault.FlowFault.{FlowFault}
use Rattle.flow_check.specs.declared.fault.FlowFault.TheVariants as flow

-- the fault of a condition other than circles
abbrev pub of_rule : RuleFault → FlowFault
of_rule (rule.TwoDrivers p v) = flow.TwoDrivers p v
of_rule (rule.MixedDriver p v) = flow.MixedDriver p v
of_rule (rule.NotPrivate p v) = flow.NotPrivate p v
of_rule (rule.Latch p v) = flow.Latch p v
of_rule (rule.ReadBeforeWrite p v) = flow.ReadBeforeWrite p v

-- it is the fault of the design; memory may always be wanting
abbrev pub IsFlowFault : Design → FlowFault → Type 0
IsFlowFault d (flow.TwoDrivers p v) = fault.IsFaultOf d (fault.two_drivers p v)
IsFlowFault d (flow.MixedDriver p v) = fault.IsFaultOf d (fault.mixed_driver p v)
IsFlowFault d (flow.NotPrivate p v) = fault.IsFaultOf d (fault.not_private p v)
IsFlowFault d (flow.Latch p v) = fault.IsFaultOf d (fault.latch p v)
IsFlowFault d (flow.ReadBeforeWrite p v) = fault.IsFaultOf d (fault.read_before_write p v)
IsFlowFault d (flow.CombLoop cycle) = fault.IsFaultOf d (fault.comb_loop cycle)
IsFlowFault d flow.NoMemory = Unit {0}
