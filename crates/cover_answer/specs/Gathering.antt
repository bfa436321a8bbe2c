-- The data files of a `cover` with a filter and a ranking (docs/commands.md, "cover"; docs/formats.md, "Ranking").
use Rattle.std.specs.Prelude.{◌≡◌, ℕ, ◌&&◌, Bool, nat_le, List, [], ◌∷◌, ◌++◌, map, filter, Option, None, Some, option_map, if◌then◌else◌}
use Rattle.std.specs.List.{list_any, enumerate_from}
use Rattle.std.specs.Str.{bytes_eq}
use Rattle.cov_dat.specs.Merging.{Counts, merged, keys_of}
use Rattle.cov_dat.specs.Patterns.{is_kept}
use Rattle.cov_dat.specs.declared.record_list.Record.{Record}
use Rattle.test_rank.specs.Ranking.{Covers, limit_passed}
use Rattle.command_ending.specs.Answer.{Answer, over_limit}
use Rattle.command_cover.specs.CoverReading.{Arrival, arrived, ended, stopped, records_in, reason_at}
use Rattle.command_cover.specs.Merge.{keeps_all}

-- which keys a pattern keeps; without one, all
abbrev pub keeps : Option (List ℕ) → List ℕ → Bool
keeps None = keeps_all
keeps (Some pattern) = λ key. is_kept key pattern

-- the records of each file that ended, behind those of the file that is being read
abbrev pub tests_behind : List Record → List Arrival → List (List Record)
tests_behind records [] = []
tests_behind records (arrived r ∷ rest) = tests_behind (records ++ r ∷ []) rest
tests_behind records (ended ∷ rest) = records ∷ tests_behind [] rest
tests_behind records (stopped answer ∷ rest) = []

-- each file is a test
abbrev pub tests_in : List Arrival → List (List Record)
tests_in arrivals = tests_behind [] arrivals

-- a test covers a key that has a record of at least 1 there
abbrev pub covers_key : List Record → List ℕ → Bool
covers_key test key = list_any (λ (r : Record). bytes_eq key r.key && nat_le 1 r.count) test

-- the numbers of the keys that a test covers; keys are numbered from 0 in order of first arrival in any file
abbrev pub covered_points : Counts → List Record → List ℕ
covered_points counts test = map (λ (k : ℕ × List ℕ). k.0) (filter (λ (k : ℕ × List ℕ). covers_key test k.1) (enumerate_from 0 (keys_of counts)))

-- the points of each test
abbrev pub covers_in : List Arrival → Covers
covers_in arrivals = map (covered_points (merged (records_in arrivals))) (tests_in arrivals)

-- why reading stops at what comes behind this: where tests are ranked, the pairs of a test and a point that it covers are
-- counted at the end of each file
abbrev pub stops_for : Bool → List Arrival → Arrival → Option Answer
stops_for ranks before (arrived r) = reason_at before (arrived r)
stops_for ranks before ended = if ranks then option_map over_limit (limit_passed (covers_in (before ++ ended ∷ []))) else None
stops_for ranks before (stopped answer) = reason_at before (stopped answer)

-- Reading stops at none of this.
abbrev pub IsGathered : Bool → List Arrival → Type 0
IsGathered ranks arrivals = (before : List Arrival) (a : Arrival) (after : List Arrival) → arrivals ≡ before ++ a ∷ after → stops_for ranks before a ≡ None

-- Whether all is read, or else the first reason to stop.
pub data Gathers (ranks : Bool) (arrivals : List Arrival) : Option Answer → Type 0 where
  all_gathered : IsGathered ranks arrivals → Gathers ranks arrivals None
  stops_at : (before : List Arrival) (a : Arrival) (after : List Arrival) (answer : Answer) → arrivals ≡ before ++ a ∷ after
      → IsGathered ranks before → stops_for ranks before a ≡ Some answer → Gathers ranks arrivals (Some answer)
