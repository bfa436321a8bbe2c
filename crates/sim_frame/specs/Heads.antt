-- Private: a stimulus behind its header.
use Rattle.std.specs.Prelude.{◌≡◌, ℕ, true, List, [], map, length, Option, None, Some, Ok}
use Rattle.cov_port.specs.Files.{Names}
use Rattle.design_tree.specs.declared.design.Design.{Design}
use Rattle.stim_lines.specs.Header.{inputs_of}
use Rattle.stim_lines.specs.Layouts.{input_widths}
use Rattle.stim_lines.specs.Reading.{is_of_text}
use Rattle.stim_lines.specs.Stimulus.{stimulus_of}
use Rattle.stim_lines.specs.declared.fault.StimFault.{StimFault}
use Rattle.stim_lines.specs.declared.fault.StimFault.TheVariants as fault
use Rattle.stim_lines.specs.declared.row.Row.{Row}
use Rattle.stim_lines.specs.declared.row.StimText.{StimText}
use Rattle.stimulus.specs.Lines.{StandsIn}
use Rattle.stimulus.specs.Streaming.{ReaderState, rows_left}
use Rattle.command_ending.specs.ErrorLines.{read_line}
use Rattle.command_ending.specs.declared.ending.Ending.{Ending}
use Rattle.command_ending.specs.declared.ending.Ending.TheVariants as ending
use Rattle.command_ending.specs.declared.status.Status.TheVariants.{Fault}
use Rattle.sim_answer.specs.Refusals.{stimulus_refusal}

-- The name holds a stimulus of the design, of which the header was read: all its rows are left.
pub record IsBegun (held : Names) (name : List ℕ) (d : Design) (reader : ReaderState) (rest : Option (List ℕ)) : Type 0 where
  pub text : List ℕ
  pub left : StimText
  pub holds : held name ≡ Some text
  pub says : stimulus_of (inputs_of d) text ≡ Ok left
  pub told : rows_left reader rest ≡ Some left
  pub stands : StandsIn text reader.lines rest

-- The reader reads rows of the design, the first one next, into a row with room for them.
pub record IsReaderOf (d : Design) (reader : ReaderState) (row : Row) : Type 0 where
  pub no_fault : reader.fault ≡ None
  pub first : reader.cycles ≡ 0
  pub room : length row.values ≡ length reader.layout.columns
  pub as_many : length reader.layout.columns ≡ length d.inputs
  pub widths : input_widths reader.layout ≡ map (λ i. i.width) (inputs_of d)

-- A `sim` ends so for a fault at or before the header of the stimulus with this name.
pub data IsHeadEnding (name : List ℕ) : StimFault → Ending → Type 0 where
  wanting : IsHeadEnding name fault.NoMemory ending.NoMemory
  unread : IsHeadEnding name fault.Failed (ending.Refused Fault (read_line name))
  refused : (flaw : StimFault) → is_of_text flaw ≡ true
      → IsHeadEnding name flaw (ending.Refused (stimulus_refusal [] name flaw).status (stimulus_refusal [] name flaw).line)
