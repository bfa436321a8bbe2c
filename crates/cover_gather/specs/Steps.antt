-- Private: the reading of data files with a filter and a ranking, by counts in place of records, step by step.
use Rattle.std.specs.Prelude.{◌≡◌, ℕ, ◌&&◌, Bool, true, false, nat_le, List, [], ◌∷◌, ◌++◌, map, filter, Option, None, Some, Result, Ok, Err, Contains}
use Rattle.std.specs.Prelude.{if◌then◌else◌}
use Rattle.cov_types.specs.declared.limit.LimitName.{LimitName}
use Rattle.cov_types.specs.declared.limit.LimitName.TheVariants.{CoveredPairs}
use Rattle.cov_dat.specs.Merging.{Counts, added, limit_passed, number_of}
use Rattle.cov_dat.specs.Reading.{reading}
use Rattle.cov_dat.specs.declared.record_list.Record.{Record}
use Rattle.cov_dat.specs.declared.record_list.RecordList.{RecordList}
use Rattle.test_rank.specs.Ranking.{Covers}
use Rattle.test_rank.specs.Ranking as ranking
use Rattle.command_ending.specs.Answer.{Answer, over_limit}
use Rattle.command_ending.specs.ErrorLines.{limit_line}
use Rattle.command_ending.specs.Promise.{Promise}
use Rattle.command_ending.specs.declared.status.Status.{Status}
use Rattle.command_ending.specs.declared.status.Status.TheVariants.{Limit}
use Rattle.command_cover.specs.CoverReading.{Arrival, arrived, ended, stopped, arrivals_of, file_arrivals, all_arrivals}
use Rattle.command_cover.specs.MergePromise.{FileRefuses, IsDataLimit}
use Rattle.cover_gather.specs.Points.{ascending}

-- what was read so far: the merged counts, the points of each file that ended, and the numbers of the keys of the open
-- file's records of at least 1, in order of arrival
pub record TallyState : Type 0 where
  pub counts : Counts
  pub covers : Covers
  pub points : List ℕ

abbrev pub no_tally : TallyState
no_tally = record { counts = []; covers = []; points = [] }

-- a record of these
abbrev pub record_of : List ℕ → ℕ → Record
record_of key count = record { key = key; count = count }

-- the numbers with that of one record more, where tests are ranked and it is at least 1
abbrev pub with_point : Bool → TallyState → Record → List ℕ
with_point ranks t r = if ranks && nat_le 1 r.count then t.points ++ number_of t.counts r.key ∷ [] else t.points

-- one record more
abbrev pub tallied : Bool → TallyState → Record → TallyState
tallied ranks t r = record { counts = added t.counts r.key r.count; covers = t.covers; points = with_point ranks t r }

-- the points of the files with those of the open one
abbrev pub with_test : TallyState → Covers
with_test t = t.covers ++ ascending t.points ∷ []

-- the open file has ended
abbrev pub closed : Bool → TallyState → TallyState
closed false t = t
closed true t = record { counts = t.counts; covers = with_test t; points = [] }

-- the limit on covered pairs is tested at the end of each file, where tests are ranked
abbrev pub limit_at_end : Bool → TallyState → Option LimitName
limit_at_end false t = None
limit_at_end true t = ranking.limit_passed (with_test t)

-- a limit that is passed comes before what goes on
abbrev pub or_limit : Option LimitName → Result TallyState Answer → Result TallyState Answer
or_limit None rest = rest
or_limit (Some name) rest = Err (over_limit name)

-- what was read with these arrivals, or why reading stops
abbrev pub continued : Bool → TallyState → List Arrival → Result TallyState Answer
continued ranks t [] = Ok t
continued ranks t (stopped answer ∷ rest) = Err answer
continued ranks t (ended ∷ rest) = or_limit (limit_at_end ranks t) (continued ranks (closed ranks t) rest)
continued ranks t (arrived r ∷ rest) = or_limit (limit_passed (added t.counts r.key r.count)) (continued ranks (tallied ranks t r) rest)

-- what comes of one record: itself, where it is kept
abbrev pub one_arrival : (List ℕ → Bool) → List ℕ → ℕ → List Arrival
one_arrival keeps key count = map arrived (filter (λ (r : Record). keeps r.key) (record_of key count ∷ []))

-- a limit that reading may pass
pub data IsReadingLimit (ranks : Bool) : LimitName → Type 0 where
  of_data : (limit : LimitName) → IsDataLimit limit → IsReadingLimit ranks limit
  of_pairs : ranks ≡ true → IsReadingLimit ranks CoveredPairs

-- Reading may stop so at a file: the file is refused, or a limit is passed.
pub data StopsAt (ranks : Bool) (name : List ℕ) : Status → List ℕ → Type 0 where
  at_file : (status : Status) (line : List ℕ) → FileRefuses name status line → StopsAt ranks name status line
  at_limit : (limit : LimitName) → IsReadingLimit ranks limit → StopsAt ranks name Limit (limit_line limit)

-- These arrivals pass a limit, and this is the answer.
pub record PassesLimit (ranks : Bool) (t : TallyState) (arrivals : List Arrival) (answer : Answer) : Type 0 where
  pub limit : LimitName
  pub may : IsReadingLimit ranks limit
  pub outcome : continued ranks t arrivals ≡ Err (over_limit limit)
  pub said : answer ≡ over_limit limit

-- What is left to be read of a file's text goes on to what the whole text comes to.
pub record GoesOn (keeps : List ℕ → Bool) (ranks : Bool) (name : List ℕ) (first t : TallyState) (text : List ℕ) (left : Option RecordList) : Type 0 where
  pub read : RecordList
  pub told : left ≡ Some read
  pub outcome : continued ranks t (arrivals_of keeps name read) ≡ continued ranks first (arrivals_of keeps name (reading text))
  pub flaw : read.fault ≡ (reading text).fault

-- what reading a file promises
abbrev pub file_promise : (List ℕ → Bool) → Bool → TallyState → List ℕ → Promise
file_promise keeps ranks t name = record {
  Answers = λ held answer. continued ranks t (file_arrivals keeps name (held name)) ≡ Err answer;
  Refuses = StopsAt ranks name;
  Reads = λ other. other ≡ name;
  Stores = λ other. ⊥;
  prints_early = false;
}

-- what reading files promises
abbrev pub files_promise : (List ℕ → Bool) → Bool → TallyState → List (List ℕ) → Promise
files_promise keeps ranks t names = record {
  Answers = λ held answer. continued ranks t (all_arrivals held keeps names) ≡ Err answer;
  Refuses = λ status line. (name : List ℕ) × Contains names name × StopsAt ranks name status line;
  Reads = Contains names;
  Stores = λ other. ⊥;
  prints_early = false;
}
