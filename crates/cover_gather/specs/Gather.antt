-- What reading the data files of a `cover` gives, and how it may be refused (docs/commands.md, "cover").
use Rattle.std.specs.Prelude.{◌≡◌, ℕ, Bool, true, false, List, Option, None, Some, Contains}
use Rattle.cov_types.specs.declared.limit.LimitName.TheVariants.{CoveredPairs}
use Rattle.cov_dat.specs.Merging.{Counts, merged}
use Rattle.test_rank.specs.Ranking.{Covers}
use Rattle.command_ending.specs.ErrorLines.{limit_line}
use Rattle.command_ending.specs.Promise.{Promise}
use Rattle.command_ending.specs.declared.status.Status.{Status}
use Rattle.command_ending.specs.declared.status.Status.TheVariants.{Limit}
use Rattle.command_cover.specs.CoverReading.{Arrival, all_arrivals, records_in}
use Rattle.command_cover.specs.MergePromise.{FileRefuses}
use Rattle.cover_answer.specs.Gathering.{keeps, covers_in, Gathers}

-- All of it is read, these are the merged counts, and, where tests are ranked, these the points that each covers.
pub record IsGatheredTo (ranks : Bool) (arrivals : List Arrival) (sums : Counts) (covers : Covers) : Type 0 where
  pub gathers : Gathers ranks arrivals None
  pub counts_is : sums ≡ merged (records_in arrivals)
  pub covers_is : ranks ≡ true → covers ≡ covers_in arrivals

-- Reading may be refused so: a file is, or, where tests are ranked, there are too many covered pairs.
pub data GatherRefuses (ranks : Bool) (names : List (List ℕ)) : Status → List ℕ → Type 0 where
  in_file : (name : List ℕ) (status : Status) (line : List ℕ) → Contains names name → FileRefuses name status line → GatherRefuses ranks names status line
  too_many_pairs : ranks ≡ true → GatherRefuses ranks names Limit (limit_line CoveredPairs)

-- what reading the files promises: the first reason to stop
abbrev pub gather_promise : Bool → Option (List ℕ) → List (List ℕ) → Promise
gather_promise ranks filter names = record {
  Answers = λ held answer. Gathers ranks (all_arrivals held (keeps filter) names) (Some answer);
  Refuses = GatherRefuses ranks names;
  Reads = Contains names;
  Stores = λ other. ⊥;
  prints_early = false;
}
