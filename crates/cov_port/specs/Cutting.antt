-- Lines of an open file, taken through one buffer of 65,536 bytes.
use Rattle.std.specs.Prelude.{◌≡◌, ℕ, ◌+◌, ◌<◌, ◌≤◌, ◌==◌, Bool, true, false, not, List, [], ◌∷◌, ◌++◌, length, take, drop, Option, None, Some, IfSome}
use Rattle.std.specs.List.{list_all}
use Rattle.cov_port.specs.Files.{FileFaults, ReadsRose}
use Rattle.cov_port.specs.Lines.{Line, is_long, lines_of}
use Rattle.cov_port.specs.declared.line_step.CutFault.{CutFault}
use Rattle.cov_port.specs.declared.line_step.LineStep.{LineStep}
use Rattle.cov_port.specs.declared.line_step.LineStep.TheVariants as step

-- what contracts see of a cutter: the bytes that it has read and not given, the line that it gave last, and the fault that it has met
pub record Cutter : Type 0 where
  pub ahead : List ℕ
  pub line : List ℕ
  pub fault : Option CutFault

-- a cutter that has read nothing
abbrev pub fresh_cutter : Cutter
fresh_cutter = record { ahead = []; line = []; fault = None }

-- the bytes that are left, where they are told: those that the cutter has read and not given, and those that the file has left
abbrev pub left_of : Cutter → Option (List ℕ) → Option (List ℕ)
left_of cutter None = None
left_of cutter (Some rest) = Some (cutter.ahead ++ rest)

-- what was told to be left is left still
abbrev pub KeepsLeft : Option (List ℕ) → Option (List ℕ) → Type 0
KeepsLeft before after = IfSome before (λ left. after ≡ Some left)

-- a text without line feeds
abbrev pub has_no_feed : List ℕ → Bool
has_no_feed text = list_all (λ b. not (b == 10)) text

-- the bytes that a step takes off: a line with its line feed, or without one, or nothing
abbrev pub bytes_given : LineStep → List ℕ → List ℕ
bytes_given step.Line line = line ++ 10 ∷ []
bytes_given step.LastLine line = line
bytes_given step.End line = []

-- the lines that a step takes off
abbrev pub lines_given : LineStep → List ℕ → List Line
lines_given step.Line line = (line, true) ∷ []
lines_given step.LastLine line = (line, false) ∷ []
lines_given step.End line = []

-- whether nothing is left behind a step
abbrev pub is_last : LineStep → Bool
is_last step.Line = false
is_last step.LastLine = true
is_last step.End = true

-- a line that no line feed ends has at least one byte, and at the end no line is told
abbrev pub HasBytes : LineStep → List ℕ → Type 0
HasBytes step.Line line = Unit {0}
HasBytes step.LastLine line = 0 < length line
HasBytes step.End line = line ≡ []

-- whether the first of the lines is too long: no line feed stands among its first 65,536 bytes
abbrev pub begins_long : List Line → Bool
begins_long [] = false
begins_long (l ∷ ls) = is_long l

-- Of the bytes that were left this step takes a line off, and these are left behind it.
pub record Gives (step : LineStep) (line before after : List ℕ) : Type 0 where
  pub bytes : before ≡ bytes_given step line ++ after
  pub lines : lines_of before ≡ lines_given step line ++ lines_of after
  pub short : begins_long (lines_of before) ≡ false
  pub ends : is_last step ≡ true → after ≡ []

-- the same where it is told what was left: what is left now is told too
abbrev pub GivesTold : LineStep → List ℕ → Option (List ℕ) → Option (List ℕ) → Type 0
GivesTold step line before after = IfSome before (λ left. (rest : List ℕ) × (after ≡ Some rest) × Gives step line left rest)

-- what holds of a step whether the file's bytes are told or not
pub record IsGiven (step : LineStep) (cutter : Cutter) : Type 0 where
  pub no_feed : has_no_feed cutter.line ≡ true
  pub short : length cutter.line ≤ 65535
  pub bytes : HasBytes step cutter.line
  pub room : length (bytes_given step cutter.line) + length cutter.ahead ≤ 65536
  pub fault : cutter.fault ≡ None

-- why a read may be told to have failed: a fault that stands comes again, and no call is made; else a read failed
abbrev pub FailedBy : Option CutFault → FileFaults → FileFaults → Type 0
FailedBy None before now = ReadsRose before now
FailedBy (Some fault) before now = now ≡ before
