-- What readers of single lines tell.
use Rattle.std.specs.Prelude.{◌≡◌, ℕ, Bool, true, false, List, Result, Ok, Err, Option, IfSome}
use Rattle.cov_types.specs.declared.limit.LimitName.{LimitName}
use Rattle.cov_types.specs.declared.limit.LimitName.TheVariants.{StimulusBytes}
use Rattle.stim_lines.specs.Fields.{Said, skipped, refused, spoken, fields_of}
use Rattle.stim_lines.specs.declared.fault.StimFault.{StimFault}
use Rattle.stim_lines.specs.declared.fault.StimFault.TheVariants as fault
use Rattle.std.specs.Prelude.{None, Some}

-- whether a line speaks, as what it says
abbrev pub seen_said : ℕ → List ℕ → Result Bool StimFault → Said
seen_said n line (Err flaw) = refused flaw
seen_said n line (Ok false) = skipped
seen_said n line (Ok true) = spoken n (fields_of line)

-- the number of the line that a fault names; a text without header line is refused for no line of it
abbrev pub line_of : StimFault → Option ℕ
line_of (fault.BadHeader n) = None
line_of (fault.UnknownInput n) = Some n
line_of (fault.MissingInput n) = Some n
line_of (fault.RepeatedInput n) = Some n
line_of (fault.BadValue n) = Some n
line_of (fault.TooWide n) = Some n
line_of (fault.WrongCount n) = Some n
line_of (fault.BadRepeat n) = Some n
line_of (fault.TooManyCycles n) = Some n
line_of (fault.LineTooLong n) = Some n
line_of fault.Failed = None
line_of (fault.Limit name) = None
line_of fault.NoMemory = None

-- where the fault names a line, it is this one
abbrev pub NamesLine : StimFault → ℕ → Type 0
NamesLine flaw number = IfSome (line_of flaw) (λ n. n ≡ number)

-- the one limit that a stimulus may pass
abbrev pub is_stimulus_limit : LimitName → Bool
is_stimulus_limit StimulusBytes = true
is_stimulus_limit _ = false

-- a fault of a text, neither a failed read nor want of memory
abbrev pub is_of_text : StimFault → Bool
is_of_text fault.Failed = false
is_of_text fault.NoMemory = false
is_of_text (fault.BadHeader n) = true
is_of_text (fault.UnknownInput n) = true
is_of_text (fault.MissingInput n) = true
is_of_text (fault.RepeatedInput n) = true
is_of_text (fault.BadValue n) = true
is_of_text (fault.TooWide n) = true
is_of_text (fault.WrongCount n) = true
is_of_text (fault.BadRepeat n) = true
is_of_text (fault.TooManyCycles n) = true
is_of_text (fault.LineTooLong n) = true
is_of_text (fault.Limit name) = is_stimulus_limit name
