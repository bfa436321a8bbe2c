-- Laws of a `cover`.
use Rattle.std.specs.Prelude.{◌≡◌, ◌↔◌, ◌≤◌, ℕ, false, List, length, None, Some, IsPermutation}
use Rattle.cov_types.specs.Limits.{most}
use Rattle.cov_types.specs.declared.limit.LimitName.TheVariants.{Files}
use Rattle.cov_port.specs.Files.{Names}
use Rattle.cov_words.specs.Command.{Covering}
use Rattle.test_rank.specs.declared.ranking.RankRow.{RankRow}
use Rattle.command_ending.specs.Answer.{Answer}
use Rattle.command_ending.specs.declared.status.Status.TheVariants.{Done}
use Rattle.command_cover.specs.Merge.{IsMergeAnswer, merge_to}
use Rattle.cover_answer.specs.CoverAnswer.{IsCoverAnswer, RanksIf, arrivals_for, counts_in, reported_with}
use Rattle.cover_answer.specs.Gathering.{IsGathered, covers_in}
use Rattle.cover_answer.specs.Reports.{report_refusal}

-- a `cover` has one answer at most
abbrev pub OneCover : Type 0
OneCover = (held : Names) (asked : Covering) (a b : Answer) → IsCoverAnswer held asked a → IsCoverAnswer held asked b → a ≡ b

-- a `cover` of few enough files, in which reading doesn't stop and no report is refused, prints and stores all that is asked for
abbrev pub IsDoneUnlessWrong : Type 0
IsDoneUnlessWrong = (held : Names) (asked : Covering) (answer : Answer) → length asked.files ≤ most Files
    → IsGathered asked.rank (arrivals_for held asked) → report_refusal held asked (counts_in (arrivals_for held asked)) ≡ None
    → IsCoverAnswer held asked answer
    → (rows : List RankRow) × (answer ≡ reported_with held asked rows) × RanksIf asked.rank (covers_in (arrivals_for held asked)) rows

-- a `cover` that stores the merged file of all records at a name, and does nothing else
abbrev pub writing : List ℕ → List (List ℕ) → Covering
writing out files = record {
  write = Some out;
  write_info = None;
  rank = false;
  annotate = None;
  annotate_all = false;
  annotate_points = false;
  annotate_min = None;
  filter_type = None;
  files = files;
}

-- it is a merge
abbrev pub WritingMerges : Type 0
WritingMerges = (held : Names) (out : List ℕ) (files : List (List ℕ)) (a : Answer)
    → IsCoverAnswer held (writing out files) a ↔ IsMergeAnswer held (merge_to out files) a

-- one that is done is done with the same answer where its files are read in another order
abbrev pub WritesInAnyOrder : Type 0
WritesInAnyOrder = (held : Names) (out : List ℕ) (xs ys : List (List ℕ)) (a : Answer) → IsPermutation xs ys
    → IsCoverAnswer held (writing out xs) a → a.status ≡ Done → IsCoverAnswer held (writing out ys) a
