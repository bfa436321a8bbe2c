-- The records of a data file, and its first fault.
use Rattle.std.specs.Prelude.{ℕ, ◌+◌, ◌==◌, List, [], ◌∷◌, map, take, Option, None, Some, Ok, Err, if◌then◌else◌}
use Rattle.std.specs.List.{enumerate_from}
use Rattle.cov_port.specs.Lines.{Line, bytes_of, lines_of}
use Rattle.cov_port.specs.Sums.{total}
use Rattle.cov_dat.specs.DataLine.{Says, says_within}
use Rattle.cov_dat.specs.declared.fault.DataFault.{DataFault}
use Rattle.cov_dat.specs.declared.fault.DataFault.TheVariants.{BadHeader}
use Rattle.cov_dat.specs.declared.record_list.Record.{Record}
use Rattle.cov_dat.specs.declared.record_list.RecordList.{RecordList}

-- what each line says, from the line with number n on, behind this many bytes; a text without a first line lacks the header
abbrev pub all_say : ℕ → ℕ → List Line → List Says
all_say n before [] = if n == 1 then Err (BadHeader 1) ∷ [] else []
all_say n before (l ∷ ls) = says_within (before + bytes_of l) n l ∷ all_say (n + 1) (before + bytes_of l) ls

-- what a line with its number says, the bytes being those of all lines up to it
abbrev pub line_says : List Line → ℕ × Line → Says
line_says ls l = says_within (total (map bytes_of (take l.0 ls))) l.0 l.1

-- what the lines of a text say, each by itself; a text without a line lacks the header
abbrev pub lines_say : List Line → List Says
lines_say [] = Err (BadHeader 1) ∷ []
lines_say (l ∷ ls) = map (line_says (l ∷ ls)) (enumerate_from 1 (l ∷ ls))

-- the records before the first fault
abbrev pub records_said : List Says → List Record
records_said [] = []
records_said (Err fault ∷ rest) = []
records_said (Ok None ∷ rest) = records_said rest
records_said (Ok (Some r) ∷ rest) = r ∷ records_said rest

-- the first fault
abbrev pub fault_said : List Says → Option DataFault
fault_said [] = None
fault_said (Err fault ∷ rest) = Some fault
fault_said (Ok r ∷ rest) = fault_said rest

-- the records before the first line that is none, and that line's fault
abbrev pub reading_of : List Says → RecordList
reading_of said = record { records = records_said said; fault = fault_said said }

-- what is read from the line with number n on, behind this many bytes
abbrev pub reading_from : ℕ → ℕ → List ℕ → RecordList
reading_from n before text = reading_of (all_say n before (lines_of text))

-- what is read of a whole text
abbrev pub reading : List ℕ → RecordList
reading text = reading_from 1 0 text

-- a reading with one record more before it
abbrev pub with_record : List ℕ → ℕ → RecordList → RecordList
with_record key count rest = record { records = record { key = key; count = count } ∷ rest.records; fault = rest.fault }

-- a reading with nothing in it
abbrev pub nothing_read : RecordList
nothing_read = record { records = []; fault = None }

-- a reading that is a fault alone
abbrev pub only_fault : DataFault → RecordList
only_fault fault = record { records = []; fault = Some fault }
