-- How much is taken of a data file that a `cover` refuses at a line (docs/commands.md, "cover").
use Rattle.std.specs.Prelude.{◌≡◌, ℕ, List, Option, Some}
use Rattle.cov_port.specs.Files.{Names}
use Rattle.cov_words.specs.Command.{Covering}
use Rattle.command_ending.specs.Answer.{Answer}
use Rattle.command_ending.specs.declared.status.Status.{Status}
use Rattle.command_ending.specs.declared.status.Status.TheVariants.{BadData}
use Rattle.command_cover.specs.Sparing.{TakesFewOf}
use Rattle.cover_answer.specs.CoverAnswer.{arrivals_for}
use Rattle.cover_answer.specs.Gathering.{Gathers}

-- A `cover` that ends with `BadData` since reading its data files stops refuses a line of one of them, and of that file no more was
-- taken than the lines before that line have, and 65,536 bytes. One that ends so for a report has read all of its data files.
abbrev pub CoverSpares : Covering → Status → Option (List ℕ) → Names → Type 0
CoverSpares asked ended rest held =
    ended ≡ BadData → (answer : Answer) → Gathers asked.rank (arrivals_for held asked) (Some answer) → TakesFewOf asked.files answer.line rest held
