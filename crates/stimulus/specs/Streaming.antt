-- The rows of an open stimulus, one after the other.
use Rattle.std.specs.Prelude.{◌≡◌, ◌+◌, ℕ, true, List, [], Option, None, Some, Ok, IfSome}
use Rattle.std.specs.Option.{option_map}
use Rattle.cov_port.specs.Files.{FileFaults, ReadsRose}
use Rattle.stim_lines.specs.Fields.{Said}
use Rattle.stim_lines.specs.Header.{inputs_of}
use Rattle.stim_lines.specs.Layouts.{FitsLayout, rows_laid}
use Rattle.stim_lines.specs.Reading.{is_of_text}
use Rattle.stim_lines.specs.Stimulus.{only_fault, stimulus_of, with_row}
use Rattle.stim_lines.specs.declared.fault.StimFault.{StimFault}
use Rattle.stim_lines.specs.declared.layout.Layout.{Layout}
use Rattle.stim_lines.specs.declared.row.Row.{Row}
use Rattle.stim_lines.specs.declared.row.StimText.{StimText}
use Rattle.design_tree.specs.declared.design.Design.{Design}
use Rattle.stimulus.specs.Lines.{LinesState, heard_left}
use Rattle.stimulus.specs.declared.row_step.RowStep.{RowStep}
use Rattle.stimulus.specs.declared.row_step.RowStep.TheVariants as step

-- what contracts see of a reader: its lines, what its rows are read by, the cycles of the rows so far, and the fault that it has met
pub record ReaderState : Type 0 where
  pub lines : LinesState
  pub layout : Layout
  pub cycles : ℕ
  pub fault : Option StimFault

-- no rows and no fault
abbrev pub no_rows : StimText
no_rows = record { rows = []; fault = None }

-- the rows of what is said; a fault that was met stands for all of them
abbrev pub rows_behind : Option StimFault → Layout → ℕ → List Said → StimText
rows_behind None layout cycles said = rows_laid layout cycles said
rows_behind (Some flaw) layout cycles said = only_fault flaw

-- the rows that are left to be read, where the file's bytes are told
abbrev pub rows_left : ReaderState → Option (List ℕ) → Option StimText
rows_left reader rest = option_map (rows_behind reader.fault reader.layout reader.cycles) (heard_left reader.lines rest)

-- The text is a stimulus, and its rows are left to be read.
abbrev pub IsStarted : Design → Option (List ℕ) → ReaderState → Option (List ℕ) → Type 0
IsStarted design before reader after = IfSome before (λ text. (left : StimText) × (stimulus_of (inputs_of design) text ≡ Ok left) × (rows_left reader after
    ≡ Some left))

-- what a step tells of the rows that were left: a row that comes first, or that there is none and no fault
abbrev pub Tells : RowStep → Row → StimText → StimText → Type 0
Tells step.Row row before after = before ≡ with_row row after
Tells step.End row before after = (before ≡ no_rows) × (after ≡ no_rows)

-- the same where it is told: what is left is told then too
abbrev pub TellsLeft : RowStep → Row → Option StimText → Option StimText → Type 0
TellsLeft step row before after = IfSome before (λ was. (left : StimText) × (after ≡ Some left) × Tells step row was left)

-- a row fits the inputs; at the end the row that was given stays
abbrev pub HasRow : RowStep → Layout → Row → Row → Type 0
HasRow step.Row layout old new = FitsLayout layout new
HasRow step.End layout old new = new ≡ old

-- the cycles of the rows so far: those of a row come to them, and the end leaves them
abbrev pub CountsCycles : RowStep → Row → ℕ → ℕ → Type 0
CountsCycles step.Row row before now = now ≡ before + row.repeat
CountsCycles step.End row before now = now ≡ before

-- a fault of the text is that of the rows that were left
abbrev pub FaultOf : Option StimText → StimFault → Type 0
FaultOf before flaw = is_of_text flaw ≡ true → IfSome before (λ was. was ≡ only_fault flaw)

-- why a read may be told to have failed: a fault that stands comes again, and no call is made; else a read failed
abbrev pub ReadFailedBy : Option StimFault → FileFaults → FileFaults → Type 0
ReadFailedBy None before now = ReadsRose before now
ReadFailedBy (Some flaw) before now = now ≡ before
