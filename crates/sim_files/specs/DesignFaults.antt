-- Private: the fault of a text that a refused design file stands for.
use Rattle.std.specs.Prelude.{Option, None, Some}
use Rattle.cvd_text.specs.Fault.{Flaw, not_cvd, version, bad_token, bad_number, bad_shape, truncated, trailing, invalid}
use Rattle.design_meaning.specs.FlowFaults.{Fault, two_drivers, mixed_driver, not_private, latch, read_before_write, comb_loop}
use Rattle.cvd_file.specs.declared.fault.CvdFault.{CvdFault}
use Rattle.cvd_file.specs.declared.fault.CvdFault.TheVariants as file
use Rattle.flow_check.specs.declared.fault.FlowFault.{FlowFault}
use Rattle.flow_check.specs.declared.fault.FlowFault.TheVariants as flow

-- the fault of a design that doesn't flow; want of memory is none
abbrev pub flow_flaw : FlowFault → Option (Flaw Fault)
flow_flaw (flow.TwoDrivers p v) = Some (invalid (two_drivers p v))
flow_flaw (flow.MixedDriver p v) = Some (invalid (mixed_driver p v))
flow_flaw (flow.NotPrivate p v) = Some (invalid (not_private p v))
flow_flaw (flow.Latch p v) = Some (invalid (latch p v))
flow_flaw (flow.ReadBeforeWrite p v) = Some (invalid (read_before_write p v))
flow_flaw (flow.CombLoop cycle) = Some (invalid (comb_loop cycle))
flow_flaw flow.NoMemory = None

-- the fault of a text; want of memory is none, and a design that was read is within the limits
abbrev pub flaw_of : CvdFault → Option (Flaw Fault)
flaw_of file.NoMemory = None
flaw_of (file.NotCvd n) = Some (not_cvd n)
flaw_of (file.Version n) = Some (version n)
flaw_of (file.BadToken n) = Some (bad_token n)
flaw_of (file.BadNumber n) = Some (bad_number n)
flaw_of (file.BadShape n) = Some (bad_shape n)
flaw_of (file.Truncated n) = Some (truncated n)
flaw_of (file.Trailing n) = Some (trailing n)
flaw_of (file.Invalid fault) = flow_flaw fault
flaw_of (file.Limit name) = None
