-- Private: the check of design files step by step.
use Rattle.std.specs.Prelude.{◌≡◌, ◌⊎◌, ℕ, ◌<◌, false, List, length, None, Some, Contains}
use Rattle.cov_types.specs.declared.limit.LimitName.TheVariants.{DesignBytes}
use Rattle.cov_port.specs.Files.{Names}
use Rattle.command_ending.specs.Answer.{Answer, absent, over_limit}
use Rattle.command_ending.specs.ErrorLines.{limit_line}
use Rattle.command_ending.specs.Promise.{Promise}
use Rattle.command_ending.specs.declared.status.Status.{Status}
use Rattle.command_ending.specs.declared.status.Status.TheVariants.{Limit}
use Rattle.command_check.specs.CheckAnswer.{StopsReading}

-- the name holds more than so many bytes
abbrev pub IsLonger : List ℕ → ℕ → Names → Type 0
IsLonger name room held = (text : List ℕ) × (held name ≡ Some text) × (room < length text)

-- the line of too many bytes
pub record IsTooLong (status : Status) (line : List ℕ) : Type 0 where
  pub status_is : status ≡ Limit
  pub line_is : line ≡ limit_line DesignBytes

-- what reading a file of at most so many bytes promises
abbrev pub design_promise : List ℕ → ℕ → Promise
design_promise name room = record {
  Answers = λ held answer. ((held name ≡ None) × (answer ≡ absent name)) ⊎ (IsLonger name room held × (answer ≡ over_limit DesignBytes));
  Refuses = IsTooLong;
  Reads = λ other. other ≡ name;
  Stores = λ other. ⊥;
  prints_early = false;
}

-- what reading the files to their ends promises
abbrev pub designs_promise : List (List ℕ) → Promise
designs_promise names = record {
  Answers = λ held answer. StopsReading held names answer;
  Refuses = IsTooLong;
  Reads = Contains names;
  Stores = λ other. ⊥;
  prints_early = false;
}
