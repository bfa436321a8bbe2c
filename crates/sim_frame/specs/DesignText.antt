-- The text of a design, taken whole.
use Rattle.std.specs.Prelude.{◌≡◌, ℕ, ◌<◌, false, List, length, None, Some}
use Rattle.cov_types.specs.Limits.{most}
use Rattle.cov_types.specs.declared.limit.LimitName.TheVariants.{CvdBytes}
use Rattle.cov_port.specs.Files.{Names}
use Rattle.command_ending.specs.Answer.{Answer, absent, over_limit}
use Rattle.command_ending.specs.ErrorLines.{limit_line}
use Rattle.command_ending.specs.Promise.{Promise}
use Rattle.command_ending.specs.declared.status.Status.TheVariants.{Limit}

-- The text of this name isn't taken: it isn't held, or has too many bytes.
pub data IsUntaken (held : Names) (name : List ℕ) : Answer → Type 0 where
  lacking : held name ≡ None → IsUntaken held name (absent name)
  too_long : (text : List ℕ) → held name ≡ Some text → most CvdBytes < length text → IsUntaken held name (over_limit CvdBytes)

-- what taking the text of a design promises
abbrev pub design_promise : List ℕ → Promise
design_promise name = record {
  Answers = λ held answer. IsUntaken held name answer;
  Refuses = λ status line. (status ≡ Limit) × (line ≡ limit_line CvdBytes);
  Reads = λ other. other ≡ name;
  Stores = λ other. ⊥;
  prints_early = false;
}
