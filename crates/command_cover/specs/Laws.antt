-- Laws of merging files.
use Rattle.std.specs.Prelude.{◌≡◌, ◌≤◌, ℕ, List, length, IsPermutation}
use Rattle.cov_types.specs.Limits.{most}
use Rattle.cov_types.specs.declared.limit.LimitName.TheVariants.{Files}
use Rattle.cov_port.specs.Files.{Names}
use Rattle.command_ending.specs.Answer.{Answer}
use Rattle.command_ending.specs.declared.status.Status.TheVariants.{Done}
use Rattle.command_cover.specs.CoverReading.{IsReadOn, all_arrivals, records_in}
use Rattle.command_cover.specs.Merge.{Merging, IsMergeAnswer, keeps_all, merge_to, stored_at}

-- a merge has one answer at most
abbrev pub OneMerge : Type 0
OneMerge = (held : Names) (merge : Merging) (a b : Answer) → IsMergeAnswer held merge a → IsMergeAnswer held merge b → a ≡ b

-- a merge of few enough files, in which there is no reason to stop, stores the merged file
abbrev pub IsDoneUnlessWrong : Type 0
IsDoneUnlessWrong = (held : Names) (merge : Merging) (answer : Answer) → length merge.files ≤ most Files
    → IsReadOn (all_arrivals held keeps_all merge.files) → IsMergeAnswer held merge answer
    → answer ≡ stored_at merge.out (records_in (all_arrivals held keeps_all merge.files))

-- a merge that is done is done with the same answer where its files are read in another order
abbrev pub MergesInAnyOrder : Type 0
MergesInAnyOrder = (held : Names) (out : List ℕ) (xs ys : List (List ℕ)) (a : Answer) → IsPermutation xs ys
    → IsMergeAnswer held (merge_to out xs) a → a.status ≡ Done → IsMergeAnswer held (merge_to out ys) a
