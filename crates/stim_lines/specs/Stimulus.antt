-- The rows of a stimulus text, and its first fault (docs/formats.md, "Stimulus").
use Rattle.std.specs.Prelude.{ℕ, ◌+◌, ◌^◌, nat_lt, List, [], ◌∷◌, Option, None, Some, Result, Ok, Err, if◌then◌else◌}
use Rattle.stim_lines.specs.Fields.{Said, skipped, refused, spoken, text_says}
use Rattle.stim_lines.specs.Header.{Input, header_fault}
use Rattle.stim_lines.specs.RowLines.{row_fault, row_of}
use Rattle.stim_lines.specs.declared.fault.StimFault.{StimFault}
use Rattle.stim_lines.specs.declared.fault.StimFault.TheVariants.{BadHeader, TooManyCycles}
use Rattle.stim_lines.specs.declared.row.Row.{Row}
use Rattle.stim_lines.specs.declared.row.StimText.{StimText}

abbrev pub only_fault : StimFault → StimText
only_fault fault = record { rows = []; fault = Some fault }

abbrev pub with_row : Row → StimText → StimText
with_row row rest = record { rows = row ∷ rest.rows; fault = rest.fault }

-- A row, behind so many cycles, and what follows it. One with which the run passes 2^32 cycles is refused, and none of its cycles run.
abbrev pub row_then : ℕ → ℕ → Row → StimText → StimText
row_then cycles n row rest = if nat_lt (2 ^ 32) (cycles + row.repeat) then only_fault (TooManyCycles n) else with_row row rest

abbrev pub unless_fault : Option StimFault → StimText → StimText
unless_fault None rest = rest
unless_fault (Some fault) rest = only_fault fault

-- rows, behind so many cycles, where this is wrong with a line and else it is this row
abbrev pub rows_by : (ℕ → List (List ℕ) → Option StimFault) → (List (List ℕ) → Row) → ℕ → List Said → StimText
rows_by flaw row cycles [] = record { rows = []; fault = None }
rows_by flaw row cycles (skipped ∷ rest) = rows_by flaw row cycles rest
rows_by flaw row cycles (refused fault ∷ rest) = only_fault fault
rows_by flaw row cycles (spoken n fields ∷ rest) =
    unless_fault (flaw n fields) (row_then cycles n (row fields) (rows_by flaw row (cycles + (row fields).repeat) rest))

-- the rows below a header, behind so many cycles
abbrev pub rows_from : List Input → List (List ℕ) → ℕ → List Said → StimText
rows_from inputs header cycles said = rows_by (row_fault inputs header) (row_of inputs header) cycles said

-- the first line that isn't skipped is the header
abbrev pub headed : List Input → ℕ → List (List ℕ) → List Said → Option StimFault → Result StimText StimFault
headed inputs n fields rest None = Ok (rows_from inputs fields 0 rest)
headed inputs n fields rest (Some fault) = Err fault

abbrev pub stimulus_said : List Input → List Said → Result StimText StimFault
stimulus_said inputs [] = Err (BadHeader 1)
stimulus_said inputs (skipped ∷ rest) = stimulus_said inputs rest
stimulus_said inputs (refused fault ∷ rest) = Err fault
stimulus_said inputs (spoken n fields ∷ rest) = headed inputs n fields rest (header_fault inputs n fields)

-- what a text is for a design with these inputs: a stimulus, or a fault at or before its header line
abbrev pub stimulus_of : List Input → List ℕ → Result StimText StimFault
stimulus_of inputs text = stimulus_said inputs (text_says text)
