-- What a `cover` promises for its words alone.
use Rattle.std.specs.Prelude.{◌≡◌, ◌⊎◌, ℕ, ◌<◌, ◌≤◌, true, false, is_some, List, length, codes, Contains, Some}
use Rattle.cov_types.specs.Limits.{most}
use Rattle.cov_types.specs.declared.limit.LimitName.TheVariants.{Files, CoveredPairs, LineEntries, SourceBytes}
use Rattle.cov_words.specs.Command.{Covering}
use Rattle.report_text.specs.FileNames.{is_good_name}
use Rattle.command_ending.specs.ErrorLines.{data_line, limit_line}
use Rattle.command_ending.specs.Promise.{Promise}
use Rattle.command_ending.specs.declared.status.Status.{Status}
use Rattle.command_ending.specs.declared.status.Status.TheVariants.{BadData, Limit}
use Rattle.command_cover.specs.MergePromise.{FileRefuses}
use Rattle.cover_answer.specs.CoverAnswer.{IsCoverAnswer}
use Rattle.cover_answer.specs.Reports.{file_line, looks_at_lines, stored_name}

-- a source file that may be annotated: which these are, the data files say, but none has a name that can't be read or written
abbrev pub MayAnnotate : Covering → List ℕ → Type 0
MayAnnotate asked file = (is_some asked.annotate ≡ true) × (is_good_name file ≡ true)

-- Reports may be refused so.
pub data ReportRefuses (asked : Covering) : Status → List ℕ → Type 0 where
  bad_key_line : (file : List ℕ) → looks_at_lines asked ≡ true → ReportRefuses asked BadData (file_line file (codes "BadKeyLine"))
  too_many_lines : looks_at_lines asked ≡ true → ReportRefuses asked Limit (limit_line LineEntries)
  bad_file_name : (file : List ℕ) → is_some asked.annotate ≡ true → is_good_name file ≡ false
      → ReportRefuses asked BadData (file_line file (codes "BadFileName"))
  same_base_name : (file : List ℕ) → MayAnnotate asked file → ReportRefuses asked BadData (file_line file (codes "SameBaseName"))
  too_long : is_some asked.annotate ≡ true → ReportRefuses asked Limit (limit_line SourceBytes)
  short_source : (file : List ℕ) (lines : ℕ) → MayAnnotate asked file → ReportRefuses asked BadData (data_line file lines (codes "ShortSource"))

-- A `cover` may be refused so: there are too many files, and only then, or a data file, the ranking or a report is refused.
pub data CoverRefuses (asked : Covering) : Status → List ℕ → Type 0 where
  too_many : most Files < length asked.files → CoverRefuses asked Limit (limit_line Files)
  in_file : (name : List ℕ) (status : Status) (line : List ℕ) → length asked.files ≤ most Files → Contains asked.files name
      → FileRefuses name status line → CoverRefuses asked status line
  too_many_pairs : length asked.files ≤ most Files → asked.rank ≡ true → CoverRefuses asked Limit (limit_line CoveredPairs)
  in_report : (status : Status) (line : List ℕ) → length asked.files ≤ most Files → ReportRefuses asked status line → CoverRefuses asked status line

-- the names that a `cover` may store: those that it is given, and in the folder the base names of sources
pub data MayStore (asked : Covering) : List ℕ → Type 0 where
  merged_file : (name : List ℕ) → asked.write ≡ Some name → MayStore asked name
  info_file : (name : List ℕ) → asked.write_info ≡ Some name → MayStore asked name
  annotated_file : (folder file : List ℕ) → asked.annotate ≡ Some folder → is_good_name file ≡ true → MayStore asked (stored_name folder file)

-- A `cover` answers, is refused, and reads and stores so.
abbrev pub cover_promise : Covering → Promise
cover_promise asked = record {
  Answers = λ held answer. IsCoverAnswer held asked answer;
  Refuses = CoverRefuses asked;
  Reads = λ name. (length asked.files ≤ most Files) × (Contains asked.files name ⊎ MayAnnotate asked name);
  Stores = MayStore asked;
  prints_early = false;
}
