-- What a merge promises for its words alone.
use Rattle.std.specs.Prelude.{◌≡◌, ℕ, ◌<◌, ◌≤◌, false, List, length, codes, Contains}
use Rattle.cov_types.specs.Limits.{most}
use Rattle.cov_types.specs.declared.limit.LimitName.{LimitName}
use Rattle.cov_types.specs.declared.limit.LimitName.TheVariants.{Files, DataBytes, DataPoints, TotalKeyBytes}
use Rattle.command_ending.specs.ErrorLines.{data_line, limit_line}
use Rattle.command_ending.specs.Promise.{Promise}
use Rattle.command_ending.specs.declared.status.Status.{Status}
use Rattle.command_ending.specs.declared.status.Status.TheVariants.{BadData, Limit}
use Rattle.command_cover.specs.Merge.{Merging, IsMergeAnswer}

-- a code of a line of a data file
pub data IsDataCode : List ℕ → Type 0 where
  bad_header : IsDataCode (codes "BadHeader")
  bad_record : IsDataCode (codes "BadRecord")
  bad_count : IsDataCode (codes "BadCount")
  line_too_long : IsDataCode (codes "LineTooLong")

-- a limit that data files may pass
pub data IsDataLimit : LimitName → Type 0 where
  data_bytes : IsDataLimit DataBytes
  data_points : IsDataLimit DataPoints
  total_key_bytes : IsDataLimit TotalKeyBytes

-- A file of this name may be refused so: at a line, from 1, with a code; or since a limit is passed in it.
pub data FileRefuses (name : List ℕ) : Status → List ℕ → Type 0 where
  bad_line : (n : ℕ) (code : List ℕ) → 1 ≤ n → IsDataCode code → FileRefuses name BadData (data_line name n code)
  past_limit : (limit : LimitName) → IsDataLimit limit → FileRefuses name Limit (limit_line limit)

-- A merge of these files may be refused so: there are too many, and only then, or one of them is refused.
pub data MergeRefuses (files : List (List ℕ)) : Status → List ℕ → Type 0 where
  too_many : most Files < length files → MergeRefuses files Limit (limit_line Files)
  in_file : (name : List ℕ) (status : Status) (line : List ℕ) → length files ≤ most Files → Contains files name
      → FileRefuses name status line → MergeRefuses files status line

-- A merge answers, is refused, and reads and stores so.
abbrev pub merge_promise : Merging → Promise
merge_promise merge = record {
  Answers = λ held answer. IsMergeAnswer held merge answer;
  Refuses = MergeRefuses merge.files;
  Reads = λ name. (length merge.files ≤ most Files) × Contains merge.files name;
  Stores = λ name. name ≡ merge.out;
  prints_early = false;
}
