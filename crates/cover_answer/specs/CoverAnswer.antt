-- The answer to a `cover` (docs/commands.md, "cover").
use Rattle.std.specs.Prelude.{◌≡◌, ◌<◌, ◌≤◌, Bool, true, false, List, length, None, Some}
use Rattle.cov_types.specs.Limits.{most}
use Rattle.cov_types.specs.declared.limit.LimitName.TheVariants.{Files}
use Rattle.cov_port.specs.Files.{Names}
use Rattle.cov_dat.specs.Merging.{Counts, merged}
use Rattle.cov_words.specs.Command.{Covering}
use Rattle.test_rank.specs.Ranking.{Covers, IsRanking}
use Rattle.test_rank.specs.declared.ranking.RankRow.{RankRow}
use Rattle.command_ending.specs.Answer.{Answer, over_limit, done}
use Rattle.command_cover.specs.CoverReading.{Arrival, all_arrivals, records_in}
use Rattle.cover_answer.specs.Gathering.{keeps, covers_in, Gathers}
use Rattle.cover_answer.specs.Reports.{report_refusal, in_key_order, cover_out, cover_stores}

-- what comes from the data files
abbrev pub arrivals_for : Names → Covering → List Arrival
arrivals_for held asked = all_arrivals held (keeps asked.filter_type) asked.files

-- the merged counts of all that came, in byte order of keys
abbrev pub counts_in : List Arrival → Counts
counts_in arrivals = in_key_order (merged (records_in arrivals))

-- the ranking of tests, where one is asked for
abbrev pub RanksIf : Bool → Covers → List RankRow → Type 0
RanksIf true covers rows = IsRanking covers rows
RanksIf false covers rows = Unit {0}

-- all that was asked for is printed and stored
abbrev pub reported_with : Names → Covering → List RankRow → Answer
reported_with held asked rows =
    done (cover_out asked (counts_in (arrivals_for held asked)) rows) (cover_stores held asked (counts_in (arrivals_for held asked)))

-- This is the answer to a `cover`.
pub data IsCoverAnswer (held : Names) (asked : Covering) : Answer → Type 0 where
  -- More files than the limit are refused before any is read.
  too_many : most Files < length asked.files → IsCoverAnswer held asked (over_limit Files)
  -- Reading the data files stops.
  unread : (answer : Answer) → length asked.files ≤ most Files → Gathers asked.rank (arrivals_for held asked) (Some answer)
      → IsCoverAnswer held asked answer
  -- The reports aren't made.
  unreported : (answer : Answer) → length asked.files ≤ most Files → Gathers asked.rank (arrivals_for held asked) None
      → report_refusal held asked (counts_in (arrivals_for held asked)) ≡ Some answer → IsCoverAnswer held asked answer
  -- All is printed and stored.
  reported : (rows : List RankRow) → length asked.files ≤ most Files → Gathers asked.rank (arrivals_for held asked) None
      → report_refusal held asked (counts_in (arrivals_for held asked)) ≡ None → RanksIf asked.rank (covers_in (arrivals_for held asked)) rows
      → IsCoverAnswer held asked (reported_with held asked rows)
