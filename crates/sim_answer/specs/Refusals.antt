-- Why a `sim` is refused, and what it says then (docs/commands.md, "sim").
use Rattle.std.specs.Prelude.{ℕ, List, codes}
use Rattle.design_meaning.specs.FlowFaults.{Fault, two_drivers, mixed_driver, not_private, latch, read_before_write, comb_loop}
use Rattle.cvd_text.specs.Fault.{Flaw, not_cvd, version, bad_token, bad_number, bad_shape, truncated, trailing, invalid}
use Rattle.stim_lines.specs.declared.fault.StimFault.{StimFault}
use Rattle.stim_lines.specs.declared.fault.StimFault.TheVariants as fault
use Rattle.command_ending.specs.Answer.{Answer, refused_with, refused_behind}
use Rattle.command_ending.specs.ErrorLines.{byte_line, limit_line, memory_line, read_line, stimulus_line}
use Rattle.command_ending.specs.declared.status.Status.TheVariants.{BadData, BadStimulus, Fault as FaultStatus, Limit, NoMemory}

-- ---- the design

-- the code of a design that breaks a flow condition
abbrev pub flow_code : Fault → List ℕ
flow_code (two_drivers p v) = codes "TwoDrivers"
flow_code (mixed_driver p v) = codes "MixedDriver"
flow_code (not_private p v) = codes "NotPrivate"
flow_code (latch p v) = codes "Latch"
flow_code (read_before_write p v) = codes "ReadBeforeWrite"
flow_code (comb_loop cycle) = codes "CombLoop"

-- a design's text that is refused at a byte, counted from 0, with a code
abbrev pub bad_byte : List ℕ → ℕ → List ℕ → Answer
bad_byte name n code = refused_with BadData (byte_line name n code)

-- what a fault of a design's text comes to; that of a whole design stands at its first byte
abbrev pub design_refusal : List ℕ → Flaw Fault → Answer
design_refusal name (not_cvd n) = bad_byte name n (codes "NotCvd")
design_refusal name (version n) = bad_byte name n (codes "Version")
design_refusal name (bad_token n) = bad_byte name n (codes "BadToken")
design_refusal name (bad_number n) = bad_byte name n (codes "BadNumber")
design_refusal name (bad_shape n) = bad_byte name n (codes "BadShape")
design_refusal name (truncated n) = bad_byte name n (codes "Truncated")
design_refusal name (trailing n) = bad_byte name n (codes "Trailing")
design_refusal name (invalid flaw) = bad_byte name 0 (flow_code flaw)

-- ---- the stimulus

-- a stimulus that is refused at a line with a code, behind the output of the rows before
abbrev pub bad_line : List ℕ → List ℕ → ℕ → List ℕ → Answer
bad_line out name n code = refused_behind out BadStimulus (stimulus_line name n code)

-- What a fault of a stimulus comes to, behind the output of the rows before. A failed read and want of memory are none of a text.
abbrev pub stimulus_refusal : List ℕ → List ℕ → StimFault → Answer
stimulus_refusal out name (fault.BadHeader n) = bad_line out name n (codes "BadHeader")
stimulus_refusal out name (fault.UnknownInput n) = bad_line out name n (codes "UnknownInput")
stimulus_refusal out name (fault.MissingInput n) = bad_line out name n (codes "MissingInput")
stimulus_refusal out name (fault.RepeatedInput n) = bad_line out name n (codes "RepeatedInput")
stimulus_refusal out name (fault.BadValue n) = bad_line out name n (codes "BadValue")
stimulus_refusal out name (fault.TooWide n) = bad_line out name n (codes "TooWide")
stimulus_refusal out name (fault.WrongCount n) = bad_line out name n (codes "WrongCount")
stimulus_refusal out name (fault.BadRepeat n) = bad_line out name n (codes "BadRepeat")
stimulus_refusal out name (fault.TooManyCycles n) = bad_line out name n (codes "TooManyCycles")
stimulus_refusal out name (fault.LineTooLong n) = bad_line out name n (codes "LineTooLong")
stimulus_refusal out name fault.Failed = refused_behind out FaultStatus (read_line name)
stimulus_refusal out name (fault.Limit limit) = refused_behind out Limit (limit_line limit)
stimulus_refusal out name fault.NoMemory = refused_behind out NoMemory memory_line
