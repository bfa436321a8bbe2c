-- Private: what a reader does with one line.
use Rattle.std.specs.Prelude.{◌≡◌, ℕ, ◌+◌, ◌<◌, ◌≤◌, Bool, true, false, List, [], ◌∷◌, ◌++◌, Option, None, Some, IfSome}
use Rattle.cov_port.specs.declared.line_step.CutFault.{CutFault}
use Rattle.stim_lines.specs.Fields.{Said, skipped, refused, spoken, fields_of}
use Rattle.stim_lines.specs.Layouts.{laid_fault, laid_row}
use Rattle.stim_lines.specs.Stimulus.{row_then, unless_fault}
use Rattle.stim_lines.specs.declared.fault.StimFault.{StimFault}
use Rattle.stim_lines.specs.declared.fault.StimFault.TheVariants as fault
use Rattle.stim_lines.specs.declared.layout.Layout.{Layout}
use Rattle.stim_lines.specs.declared.row.Row.{Row}
use Rattle.stim_lines.specs.declared.row.StimText.{StimText}
use Rattle.stimulus.specs.Lines.{LinesState}
use Rattle.stimulus.specs.declared.line_story.LineStory.{LineStory}
use Rattle.stimulus.specs.declared.line_story.LineStory.TheVariants as story

-- the lines that were given are those of a stimulus within the limit on bytes
pub record IsInStimulus (number bytes : ℕ) : Type 0 where
  pub counted : number ≤ bytes
  pub within : bytes ≤ 1099511627776

-- the lines that were taken of a text, and the bytes that are left of it, are fewer than its bytes
pub record IsInText (number left bytes : ℕ) : Type 0 where
  pub counted : number + left ≤ 18446744073709551615
  pub within : bytes ≤ 1099511627776

-- what contracts see of the lines of a text: how many were taken, and what those that are left say
pub record TextState : Type 0 where
  pub number : ℕ
  pub said : List Said

-- what the line that was given last says
abbrev pub line_said : LinesState → Said
line_said lines = spoken lines.number (fields_of lines.cutter.line)

-- what one line that says this comes to: nothing, fields, or the end
abbrev pub Comes : LineStory → Said → List Said → List Said → Type 0
Comes story.Skipped said before after = before ≡ after
Comes story.Spoken said before after = before ≡ said ∷ after
Comes story.End said before after = (before ≡ []) × (after ≡ [])

abbrev pub ComesTold : LineStory → Said → Option (List Said) → Option (List Said) → Type 0
ComesTold story said before after = IfSome before (λ was. (left : List Said) × (after ≡ Some left) × Comes story said was left)

-- what a line that says this comes to
abbrev pub IsStory : LineStory → ℕ → List ℕ → Said → Type 0
IsStory story.Skipped n line said = said ≡ skipped
IsStory story.Spoken n line said = said ≡ spoken n (fields_of line)
IsStory story.End n line said = ⊥

-- what a line comes to that speaks or is skipped
abbrev pub line_story : Bool → LineStory
line_story true = story.Spoken
line_story false = story.Skipped

-- the next line that speaks, or that there is none
abbrev pub story_of : Bool → LineStory
story_of true = story.Spoken
story_of false = story.End

-- where the line speaks
abbrev pub IfSpoken : LineStory → Type 0 → Type 0
IfSpoken story.Skipped P = Unit {0}
IfSpoken story.Spoken P = P
IfSpoken story.End P = Unit {0}

-- the first that was left to be heard is this refusal
abbrev pub BeginsRefused : StimFault → List Said → Type 0
BeginsRefused flaw said = (rest : List Said) × (said ≡ refused flaw ∷ rest)

-- the lines stand one line of so many bytes further
pub record IsNext (bytes : ℕ) (old new : LinesState) : Type 0 where
  pub cutter : new.cutter ≡ old.cutter
  pub number : new.number ≡ old.number + 1
  pub bytes_more : new.bytes ≡ old.bytes + bytes

-- a line that is skipped has bytes
abbrev pub Moves : LineStory → ℕ → ℕ → Type 0
Moves story.Skipped before now = before < now
Moves story.Spoken before now = Unit {0}
Moves story.End before now = Unit {0}

-- what was told to be left to be heard is left still
abbrev pub KeepsHeard : Option (List Said) → Option (List Said) → Type 0
KeepsHeard before after = IfSome before (λ was. after ≡ Some was)

-- a row behind so many cycles, and what follows it
abbrev pub row_said : Layout → ℕ → ℕ → List (List ℕ) → StimText → StimText
row_said layout cycles n fields rest = unless_fault (laid_fault layout.widths n fields) (row_then cycles n (laid_row layout fields) rest)

-- further rows before those of a text
abbrev pub with_rows : List Row → StimText → StimText
with_rows rows rest = record { rows = rows ++ rest.rows; fault = rest.fault }

-- without a fault the cutter has met none either
abbrev pub FollowsFault : Option StimFault → Option CutFault → Type 0
FollowsFault None cut = cut ≡ None
FollowsFault (Some flaw) cut = flaw ≡ fault.NoMemory → ⊥
