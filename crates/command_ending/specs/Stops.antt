-- Private: why a command stops before it has put or stored anything, step by step.
use Rattle.std.specs.Prelude.{◌≡◌, ℕ, Bool, true, false, List, Option, None, IfSome, IsSomeAnd}
use Rattle.cov_port.specs.Files.{Names, FileFaults, OpensRose, ReadsRose}
use Rattle.command_ending.specs.Answer.{Answer, refused_with, absent}
use Rattle.command_ending.specs.ErrorLines.{open_line, read_line}
use Rattle.command_ending.specs.Promise.{Promise}
use Rattle.command_ending.specs.declared.ending.Ending.{Ending}
use Rattle.command_ending.specs.declared.ending.Ending.TheVariants as ending
use Rattle.command_ending.specs.declared.status.Status.{Status}
use Rattle.command_ending.specs.declared.status.Status.TheVariants.{Done, BadWords, BadDesign, BadStimulus, BadData, Fault, Limit, NoMemory, Stopped}

-- the statuses that refuse what a file holds, or a limit
abbrev pub is_refusal : Status → Bool
is_refusal Done = false
is_refusal BadWords = false
is_refusal BadDesign = true
is_refusal BadStimulus = true
is_refusal BadData = true
is_refusal Fault = false
is_refusal Limit = true
is_refusal NoMemory = false
is_refusal Stopped = false

-- A command ends with a refusal of this kind, unless memory was wanted.
pub data IsRefusal (Is : Answer → Type 0) : Ending → Type 0 where
  without_memory : IsRefusal Is ending.NoMemory
  refused : (status : Status) (line : List ℕ) → is_refusal status ≡ true → Is (refused_with status line)
      → IsRefusal Is (ending.Refused status line)

-- A command ends while it reads, with a fault or a refusal that it promises, unless memory was wanted.
pub data Stops (p : Promise) (told : Option Names) (before now : FileFaults) : Ending → Type 0 where
  wants_memory : now ≡ before → Stops p told before now ending.NoMemory
  lacks_name : (name line : List ℕ) → p.Reads name → line ≡ open_line name → now ≡ before
      → IsSomeAnd told (λ held. p.Answers held (absent name)) → Stops p told before now (ending.Refused Fault line)
  cannot_open : (name line : List ℕ) → p.Reads name → line ≡ open_line name → OpensRose before now
      → Stops p told before now (ending.Refused Fault line)
  cannot_read : (name line : List ℕ) → p.Reads name → line ≡ read_line name → ReadsRose before now
      → Stops p told before now (ending.Refused Fault line)
  refuses : (status : Status) (line : List ℕ) → is_refusal status ≡ true → p.Refuses status line → now ≡ before
      → IfSome told (λ held. p.Answers held (refused_with status line)) → Stops p told before now (ending.Refused status line)

-- what taking one file promises: nothing but that it may lack
abbrev pub taking : List ℕ → Promise
taking name = record {
  Answers = λ held answer. (held name ≡ None) × (answer ≡ absent name);
  Refuses = λ status line. ⊥;
  Reads = λ other. other ≡ name;
  Stores = λ other. ⊥;
  prints_early = false;
}
