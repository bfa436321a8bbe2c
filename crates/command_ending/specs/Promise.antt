-- What a command promises for its words, before anything is known of files and output.
use Rattle.std.specs.Prelude.{◌≡◌, ℕ, Bool, true, false, not, List, []}
use Rattle.cov_port.specs.Files.{Names}
use Rattle.command_ending.specs.Answer.{Answer}
use Rattle.command_ending.specs.ErrorLines.{memory_line}
use Rattle.command_ending.specs.declared.status.Status.{Status}
use Rattle.command_ending.specs.declared.status.Status.TheVariants.{Done, BadWords, BadDesign, BadStimulus, BadData, Fault, Limit, NoMemory, Stopped}

pub record Promise : Type 1 where
  -- This is an answer, given what each name holds.
  pub Answers : Names → Answer → Type 0
  -- A refusal with this status may have this line, whatever the files hold.
  pub Refuses : Status → List ℕ → Type 0
  -- A file of this name may be read.
  pub Reads : List ℕ → Type 0
  -- A file of this name may be stored.
  pub Stores : List ℕ → Type 0
  -- whether output may be put before all files are read
  pub prints_early : Bool

-- whether a refusal with this status comes before anything is put out
abbrev pub comes_first : Bool → Status → Bool
comes_first early BadWords = true
comes_first early BadDesign = true
comes_first early BadStimulus = not early
comes_first early BadData = true
comes_first early Limit = not early
comes_first early NoMemory = true
comes_first early Done = false
comes_first early Fault = false
comes_first early Stopped = false

-- The line is one of the status, whatever the files hold. That of a fault is said where its cause is.
abbrev pub IsLineOf : (Status → List ℕ → Type 0) → Status → List ℕ → Type 0
IsLineOf Refuses Done line = line ≡ []
IsLineOf Refuses BadWords line = Refuses BadWords line
IsLineOf Refuses BadDesign line = Refuses BadDesign line
IsLineOf Refuses BadStimulus line = Refuses BadStimulus line
IsLineOf Refuses BadData line = Refuses BadData line
IsLineOf Refuses Fault line = Unit {0}
IsLineOf Refuses Limit line = Refuses Limit line
IsLineOf Refuses NoMemory line = line ≡ memory_line
IsLineOf Refuses Stopped line = Refuses Stopped line
