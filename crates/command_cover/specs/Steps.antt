-- Private: the merge by counts in place of records, step by step.
use Rattle.std.specs.Prelude.{◌≡◌, ℕ, false, List, [], ◌∷◌, Option, None, Some, Result, Ok, Err, Contains}
use Rattle.cov_types.specs.declared.limit.LimitName.{LimitName}
use Rattle.cov_dat.specs.Merging.{Counts, added, limit_passed}
use Rattle.cov_dat.specs.Reading.{reading}
use Rattle.cov_dat.specs.declared.record_list.RecordList.{RecordList}
use Rattle.command_ending.specs.Answer.{Answer, over_limit}
use Rattle.command_ending.specs.Promise.{Promise}
use Rattle.command_cover.specs.CoverReading.{Arrival, arrived, ended, stopped, arrivals_of, file_arrivals, all_arrivals}
use Rattle.command_cover.specs.Merge.{keeps_all}
use Rattle.command_cover.specs.MergePromise.{FileRefuses}

-- a limit that is passed comes before what goes on
abbrev pub with_limit : Option LimitName → Result Counts Answer → Result Counts Answer
with_limit None rest = rest
with_limit (Some name) rest = Err (over_limit name)

-- the counts behind these arrivals, or why reading stops
abbrev pub continued : Counts → List Arrival → Result Counts Answer
continued counts [] = Ok counts
continued counts (stopped answer ∷ rest) = Err answer
continued counts (ended ∷ rest) = continued counts rest
continued counts (arrived r ∷ rest) = with_limit (limit_passed (added counts r.key r.count)) (continued (added counts r.key r.count) rest)

-- What is left to be read of a file's text goes on to what the whole text comes to.
pub record GoesOn (name : List ℕ) (first counts : Counts) (text : List ℕ) (left : Option RecordList) : Type 0 where
  pub read : RecordList
  pub told : left ≡ Some read
  pub outcome : continued counts (arrivals_of keeps_all name read) ≡ continued first (arrivals_of keeps_all name (reading text))
  pub flaw : read.fault ≡ (reading text).fault

-- what adding a file to counts promises
abbrev pub file_promise : Counts → List ℕ → Promise
file_promise counts name = record {
  Answers = λ held answer. continued counts (file_arrivals keeps_all name (held name)) ≡ Err answer;
  Refuses = FileRefuses name;
  Reads = λ other. other ≡ name;
  Stores = λ other. ⊥;
  prints_early = false;
}

-- what adding files to counts promises
abbrev pub files_promise : Counts → List (List ℕ) → Promise
files_promise counts names = record {
  Answers = λ held answer. continued counts (all_arrivals held keeps_all names) ≡ Err answer;
  Refuses = λ status line. (name : List ℕ) × Contains names name × FileRefuses name status line;
  Reads = Contains names;
  Stores = λ other. ⊥;
  prints_early = false;
}
