-- The answer to a merge of data files (docs/commands.md, "cover --write").
use Rattle.std.specs.Prelude.{ℕ, ◌<◌, ◌≤◌, Bool, true, List, [], ◌∷◌, length, Ok, Err}
use Rattle.cov_types.specs.Limits.{most}
use Rattle.cov_types.specs.declared.limit.LimitName.TheVariants.{Files}
use Rattle.cov_port.specs.Files.{Names}
use Rattle.cov_dat.specs.Merging.{merged}
use Rattle.cov_dat.specs.DataText.{count_map, data_text}
use Rattle.cov_dat.specs.declared.record_list.Record.{Record}
use Rattle.command_ending.specs.Answer.{Answer, done, over_limit}
use Rattle.command_cover.specs.CoverReading.{IsReading, all_arrivals}

-- a merge: the name that is stored, and the files that are read, in order
pub record Merging : Type 0 where
  pub out : List ℕ
  pub files : List (List ℕ)

abbrev pub merge_to : List ℕ → List (List ℕ) → Merging
merge_to out files = record { out = out; files = files }

-- without a filter each record is kept
abbrev pub keeps_all : List ℕ → Bool
keeps_all key = true

-- the merged file of these records is stored
abbrev pub stored_at : List ℕ → List Record → Answer
stored_at out records = done [] ((out, data_text (count_map (merged records))) ∷ [])

-- This is the answer to a merge.
pub data IsMergeAnswer (held : Names) (merge : Merging) : Answer → Type 0 where
  -- More files than the limit are refused before any is read.
  too_many : most Files < length merge.files → IsMergeAnswer held merge (over_limit Files)
  -- Reading the data files stops.
  unread : (answer : Answer) → length merge.files ≤ most Files
      → IsReading (all_arrivals held keeps_all merge.files) (Err answer) → IsMergeAnswer held merge answer
  -- All is read and stored.
  all_merged : (records : List Record) → length merge.files ≤ most Files
      → IsReading (all_arrivals held keeps_all merge.files) (Ok records) → IsMergeAnswer held merge (stored_at merge.out records)
