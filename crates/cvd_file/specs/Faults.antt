-- What the faults of design files are.
use Rattle.std.specs.Prelude.{◌≡◌, ℕ, ◌<◌, List, length}
use Rattle.cov_types.specs.Limits.{most}
use Rattle.cov_types.specs.declared.limit.LimitName.TheVariants as limit
use Rattle.design_tree.specs.declared.design.Design.{Design}
use Rattle.design_meaning.specs.FlowFaults.{Fault, IsFaultOf, two_drivers, mixed_driver, not_private, latch, read_before_write, comb_loop}
use Rattle.cvd_text.specs.Fault.{IsFlaw, not_cvd, version, bad_token, bad_number, bad_shape, truncated, trailing, invalid}
use Rattle.flow_check.specs.declared.fault.FlowFault.{FlowFault}
use Rattle.flow_check.specs.declared.fault.FlowFault.TheVariants as flow
use Rattle.cvd_file.specs.declared.fault.CvdFault.{CvdFault}
use Rattle.cvd_file.specs.declared.fault.CvdFault.TheVariants.{NoMemory, NotCvd, Version, BadToken, BadNumber, BadShape, Truncated, Trailing, Invalid, Limit}

-- the fault of a design's flow; want of memory is none
abbrev pub IsBroken : Design → FlowFault → Type 0
IsBroken d (flow.TwoDrivers p v) = IsFaultOf d (two_drivers p v)
IsBroken d (flow.MixedDriver p v) = IsFaultOf d (mixed_driver p v)
IsBroken d (flow.NotPrivate p v) = IsFaultOf d (not_private p v)
IsBroken d (flow.Latch p v) = IsFaultOf d (latch p v)
IsBroken d (flow.ReadBeforeWrite p v) = IsFaultOf d (read_before_write p v)
IsBroken d (flow.CombLoop cycle) = IsFaultOf d (comb_loop cycle)
IsBroken d flow.NoMemory = ⊥

-- why a valid design has no order: its flow, or want of memory
abbrev pub BreaksFlow : Design → CvdFault → Type 0
BreaksFlow d NoMemory = Unit {0}
BreaksFlow d (NotCvd n) = ⊥
BreaksFlow d (Version n) = ⊥
BreaksFlow d (BadToken n) = ⊥
BreaksFlow d (BadNumber n) = ⊥
BreaksFlow d (BadShape n) = ⊥
BreaksFlow d (Truncated n) = ⊥
BreaksFlow d (Trailing n) = ⊥
BreaksFlow d (Invalid fault) = IsBroken d fault
BreaksFlow d (Limit name) = ⊥

-- the text is that of a design that breaks a flow condition so
abbrev pub IsInvalid : List ℕ → FlowFault → Type 0
IsInvalid text (flow.TwoDrivers p v) = IsFlaw Fault IsFaultOf text (invalid (two_drivers p v))
IsInvalid text (flow.MixedDriver p v) = IsFlaw Fault IsFaultOf text (invalid (mixed_driver p v))
IsInvalid text (flow.NotPrivate p v) = IsFlaw Fault IsFaultOf text (invalid (not_private p v))
IsInvalid text (flow.Latch p v) = IsFlaw Fault IsFaultOf text (invalid (latch p v))
IsInvalid text (flow.ReadBeforeWrite p v) = IsFlaw Fault IsFaultOf text (invalid (read_before_write p v))
IsInvalid text (flow.CombLoop cycle) = IsFlaw Fault IsFaultOf text (invalid (comb_loop cycle))
IsInvalid text flow.NoMemory = ⊥

-- memory may always be wanting; every other fault is the text's, and a limit is none
abbrev pub IsDecodeFault : List ℕ → CvdFault → Type 0
IsDecodeFault text NoMemory = Unit {0}
IsDecodeFault text (NotCvd n) = IsFlaw Fault IsFaultOf text (not_cvd n)
IsDecodeFault text (Version n) = IsFlaw Fault IsFaultOf text (version n)
IsDecodeFault text (BadToken n) = IsFlaw Fault IsFaultOf text (bad_token n)
IsDecodeFault text (BadNumber n) = IsFlaw Fault IsFaultOf text (bad_number n)
IsDecodeFault text (BadShape n) = IsFlaw Fault IsFaultOf text (bad_shape n)
IsDecodeFault text (Truncated n) = IsFlaw Fault IsFaultOf text (truncated n)
IsDecodeFault text (Trailing n) = IsFlaw Fault IsFaultOf text (trailing n)
IsDecodeFault text (Invalid fault) = IsInvalid text fault
IsDecodeFault text (Limit name) = ⊥

-- memory may always be wanting; otherwise the text has too many bytes
abbrev pub IsEncodeFault : CvdFault → List ℕ → Type 0
IsEncodeFault NoMemory text = Unit {0}
IsEncodeFault (NotCvd n) text = ⊥
IsEncodeFault (Version n) text = ⊥
IsEncodeFault (BadToken n) text = ⊥
IsEncodeFault (BadNumber n) text = ⊥
IsEncodeFault (BadShape n) text = ⊥
IsEncodeFault (Truncated n) text = ⊥
IsEncodeFault (Trailing n) text = ⊥
IsEncodeFault (Invalid fault) text = ⊥
IsEncodeFault (Limit name) text = (name ≡ limit.CvdBytes) × (most limit.CvdBytes < length text)
