-- A data file read by lines, and how much of it is taken.
use Rattle.std.specs.Prelude.{◌≡◌, ℕ, ◌+◌, ◌-◌, ◌<◌, ◌≤◌, List, [], ◌++◌, length, map, take, Option, None, Some, IfSome}
use Rattle.std.specs.Option.{option_map}
use Rattle.cov_types.specs.Key.{IsKey}
use Rattle.cov_types.specs.declared.limit.LimitName.TheVariants.{DataBytes}
use Rattle.cov_port.specs.Cutting.{Cutter, fresh_cutter, left_of}
use Rattle.cov_port.specs.Files.{FileFaults, ReadsRose}
use Rattle.cov_port.specs.Lines.{Line, bytes_of, lines_of}
use Rattle.cov_port.specs.Sums.{total}
use Rattle.cov_port.specs.declared.line_step.CutFault.{CutFault}
use Rattle.cov_dat.specs.Reading.{nothing_read, only_fault, reading_from, with_record}
use Rattle.cov_dat.specs.declared.fault.DataFault.{DataFault}
use Rattle.cov_dat.specs.declared.fault.DataFault.TheVariants as fault
use Rattle.cov_dat.specs.declared.record_list.RecordList.{RecordList}
use Rattle.cov_dat.specs.declared.record_step.RecordStep.{RecordStep}
use Rattle.cov_dat.specs.declared.record_step.RecordStep.TheVariants as step

-- what contracts see of a reader: its cutter, the number of the next line from 1 and the bytes of the lines before it,
-- the key and the count of the last record, and the fault that it has met
pub record ReaderState : Type 0 where
  pub cutter : Cutter
  pub number : ℕ
  pub bytes : ℕ
  pub key : List ℕ
  pub count : ℕ
  pub fault : Option DataFault

-- a reader that has read nothing
abbrev pub fresh_reader : ReaderState
fresh_reader = record { cutter = fresh_cutter; number = 1; bytes = 0; key = []; count = 0; fault = None }

-- what is read of the bytes that are left; a fault that was met stands for all of them
abbrev pub reading_behind : Option DataFault → ℕ → ℕ → List ℕ → RecordList
reading_behind None number bytes left = reading_from number bytes left
reading_behind (Some flaw) number bytes left = only_fault flaw

-- what is left to be read, where the file's bytes are told
abbrev pub reading_left : ReaderState → Option (List ℕ) → Option RecordList
reading_left reader rest = option_map (reading_behind reader.fault reader.number reader.bytes) (left_of reader.cutter rest)

-- what a step tells of what was left to be read: a record that comes first, or that there is none and no fault
abbrev pub Tells : RecordStep → List ℕ → ℕ → RecordList → RecordList → Type 0
Tells step.Record key count before after = before ≡ with_record key count after
Tells step.End key count before after = (before ≡ nothing_read) × (after ≡ nothing_read)

-- the same where it is told: what is left is told then too
abbrev pub TellsLeft : RecordStep → List ℕ → ℕ → Option RecordList → Option RecordList → Type 0
TellsLeft step key count before after = IfSome before (λ was. (left : RecordList) × (after ≡ Some left) × Tells step key count was left)

-- a record has a key of the form, and at the end no key and no count are told
abbrev pub HasKey : RecordStep → List ℕ → ℕ → Type 0
HasKey step.Record key count = IsKey key
HasKey step.End key count = (key ≡ []) × (count ≡ 0)

-- a fault is that of what was left to be read, unless a read failed
abbrev pub FaultOf : Option RecordList → DataFault → Type 0
FaultOf before flaw = (flaw ≡ fault.Failed → ⊥) → IfSome before (λ was. was ≡ only_fault flaw)

-- a fault of a file, whatever it holds: a line from 1 on, a failed read, or the limit on bytes
abbrev pub IsFileFault : DataFault → Type 0
IsFileFault (fault.BadHeader n) = 1 ≤ n
IsFileFault (fault.BadRecord n) = 1 ≤ n
IsFileFault (fault.BadCount n) = 1 ≤ n
IsFileFault (fault.LineTooLong n) = 1 ≤ n
IsFileFault fault.Failed = Unit {0}
IsFileFault (fault.Limit name) = name ≡ DataBytes

-- a fault that isn't met again is such a one
abbrev pub FirstFault : Option DataFault → DataFault → Type 0
FirstFault None flaw = IsFileFault flaw
FirstFault (Some before) flaw = Unit {0}

-- a record takes bytes off
abbrev pub TakesBytes : RecordStep → ℕ → ℕ → Type 0
TakesBytes step.Record before now = before < now
TakesBytes step.End before now = Unit {0}

-- why a read may be told to have failed: a fault that stands comes again, and no call is made; else a read failed
abbrev pub ReadFailedBy : Option DataFault → FileFaults → FileFaults → Type 0
ReadFailedBy None before now = ReadsRose before now
ReadFailedBy (Some flaw) before now = now ≡ before

-- the bytes of the lines before the line with this number
abbrev pub bytes_before_line : ℕ → List ℕ → ℕ
bytes_before_line number text = total (map bytes_of (take (number - 1) (lines_of text)))

-- A reader that has met no fault stands in this text, behind its first lines.
pub record StandsIn (text : List ℕ) (reader : ReaderState) (rest : Option (List ℕ)) : Type 0 where
  pub front : List ℕ
  pub before : List Line
  pub left : List ℕ
  pub told : left_of reader.cutter rest ≡ Some left
  pub split : text ≡ front ++ left
  pub lines : lines_of text ≡ before ++ lines_of left
  pub number : reader.number ≡ length before + 1
  pub bytes : reader.bytes ≡ total (map bytes_of before)
  pub counted : length front ≡ reader.bytes
  pub no_fault : reader.fault ≡ None

-- the number of the line that a fault names
abbrev pub line_of : DataFault → Option ℕ
line_of (fault.BadHeader n) = Some n
line_of (fault.BadRecord n) = Some n
line_of (fault.BadCount n) = Some n
line_of (fault.LineTooLong n) = Some n
line_of fault.Failed = None
line_of (fault.Limit name) = None

-- Of the text no more was taken than the lines before the refused one, and 65,536 bytes.
pub record IsFrugal (text : List ℕ) (rest : Option (List ℕ)) (number : ℕ) : Type 0 where
  pub taken : List ℕ
  pub left : List ℕ
  pub told : rest ≡ Some left
  pub split : text ≡ taken ++ left
  pub few : length taken ≤ bytes_before_line number text + 65536

-- without a fault the cutter has met none either
abbrev pub FollowsFault : Option DataFault → Option CutFault → Type 0
FollowsFault None cut = cut ≡ None
FollowsFault (Some flaw) cut = Unit {0}
