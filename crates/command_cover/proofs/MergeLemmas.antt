-- What a merge leaves, and its laws.
use Rattle.std.proofs.Common.{◌≡◌, ◌<◌, ◌≤◌, ℕ, List, [], ◌∷◌, length, inl, inr, refl, sym, ap, subst, Option, Ok, Err, arith}
use Rattle.std.specs.Prelude.{IfSome, Contains}
use Rattle.std.proofs.lemmas.List.Elements.{Contains-push_cases}
use Rattle.cov_types.specs.Limits.{most}
use Rattle.cov_types.specs.declared.limit.LimitName.TheVariants.{Files}
use Rattle.cov_port.specs.Files.{Names, FileFaults}
use Rattle.cov_dat.specs.DataText.{count_map, data_text}
use Rattle.cov_dat.specs.Laws.{AddsOneByOne}
use Rattle.cov_dat.specs.Merging.{Counts}
use Rattle.cov_dat.specs.declared.record_list.Record.{Record}
use Rattle.command_ending.specs.Answer.{Answer, done, over_limit, refused_with}
use Rattle.command_ending.specs.Ending.{line_at, status_at}
use Rattle.command_ending.specs.Finish.{IsFinish}
use Rattle.command_ending.specs.Leaves.{Leaves}
use Rattle.command_ending.specs.Stops.{IsRefusal, Stops}
use Rattle.command_ending.specs.World.{World}
use Rattle.command_ending.specs.declared.ending.Ending.{Ending}
use Rattle.command_ending.specs.declared.status.Status.{Status}
use Rattle.command_ending.proofs.FinishLemmas.{finish_leaves}
use Rattle.command_ending.proofs.PutLemmas.{always_told, if_told}
use Rattle.command_ending.proofs.StopLemmas.{refusal_stops, stops_weaker}
use Rattle.command_cover.specs.CoverReading.{IsReadOn, all_read, all_arrivals, records_in}
use Rattle.command_cover.specs.Merge.{Merging, IsMergeAnswer, too_many, unread, all_merged, keeps_all, stored_at}
use Rattle.command_cover.specs.MergePromise.{MergeRefuses, in_file, merge_promise}
use Rattle.command_cover.specs.MergePromise as promise
use Rattle.command_cover.specs.Steps.{continued, files_promise}
use Rattle.command_cover.proofs.ReadingLemmas.{Outcome, all_reads, reads_once}

limit_of : (files : List (List ℕ)) (status : Status) (line : List ℕ) → most Files < length files → refused_with status line ≡ over_limit Files
    → MergeRefuses files status line
limit_of files status line many is =
    subst (λ (a : Answer). MergeRefuses files a.status a.line) (sym is) (promise.too_many many)

-- more files than are read
pub many_stop : (merge : Merging) (told : Option Names) (faults : FileFaults) (e : Ending) → most Files < length merge.files
    → IsRefusal (λ answer. answer ≡ over_limit Files) e
    → Stops (merge_promise merge) told faults faults e
many_stop merge told faults e many is =
    refusal_stops (merge_promise merge) (λ answer. answer
    ≡ over_limit Files) told faults faults e refl (λ status line same. limit_of merge.files status line many same)
    (always_told told _ (λ held answer same. subst (IsMergeAnswer held merge) (sym same) (too_many many))) is

-- files of which one is refused
pub files_stop : AddsOneByOne → (merge : Merging) (told : Option Names) (before now : FileFaults) (e : Ending) → length merge.files ≤ most Files
    → Stops (files_promise [] merge.files) told before now e → Stops (merge_promise merge) told before now e
files_stop law merge told before now e few is =
    stops_weaker (files_promise [] merge.files) (merge_promise merge) told before now e (λ name there. (few, there))
    (λ status line one. in_file one.0 status line few one.1 one.2)
    (always_told told _ (λ held answer one. unread answer few ((all_reads law (all_arrivals held keeps_all merge.files)).err answer one))) is

-- files that are all read
pub read_answers : AddsOneByOne → (merge : Merging) (told : Option Names) (counts : Counts) → length merge.files ≤ most Files
    → IfSome told (λ held. continued [] (all_arrivals held keeps_all merge.files) ≡ Ok counts)
    → IfSome told (λ held. IsMergeAnswer held merge (done [] ((merge.out, data_text (count_map counts)) ∷ [])))
read_answers law merge told counts few is =
    if_told told _ _ (λ held one. let read = (all_reads law (all_arrivals held keeps_all merge.files)).ok counts one in
    subst (λ (c : Counts). IsMergeAnswer held merge (done [] ((merge.out, data_text (count_map c)) ∷ []))) (sym read.1)
    (all_merged (records_in (all_arrivals held keeps_all merge.files)) few read.0)) is

one_name : (out name : List ℕ) → Contains (out ∷ []) name → name ≡ out
one_name out name there = elim (Contains-push_cases [] out name there) [ inl none ↦ absurd (omega (arith, none.1)) | inr same ↦ sym same ]

-- the merged file is stored
pub stored_leaves : (merge : Merging) (counts : Counts) (old new : World) (e : Ending)
    → IfSome old.held (λ held. IsMergeAnswer held merge (done [] ((merge.out, data_text (count_map counts)) ∷ [])))
    → IsFinish [] ((merge.out, data_text (count_map counts)) ∷ []) old new e → Leaves (merge_promise merge) (line_at e) old new (status_at e)
stored_leaves merge counts old new e is finished =
    finish_leaves (merge_promise merge) [] ((merge.out, data_text (count_map counts)) ∷ []) old new e is (λ name there. one_name merge.out name there) finished

abbrev stop : Answer → Outcome
stop a = Err a

abbrev whole : List Record → Outcome
whole rs = Ok rs

outcomes_err : (a b : Answer) → stop a ≡ stop b → a ≡ b
outcomes_err a b is = cc

outcomes_ok : (a b : List Record) → whole a ≡ whole b → a ≡ b
outcomes_ok a b is = cc

outcomes_apart : (a : List Record) (b : Answer) → whole a ≡ stop b → ⊥
outcomes_apart a b is = absurd (cc)

-- a merge has one answer
pub merges_agree : (held : Names) (merge : Merging) (a b : Answer) → IsMergeAnswer held merge a → IsMergeAnswer held merge b → a ≡ b
merges_agree held merge a b (too_many many) (too_many more) = refl
merges_agree held merge a b (too_many many) (unread answer few is) = absurd (omega arith)
merges_agree held merge a b (too_many many) (all_merged records few is) = absurd (omega arith)
merges_agree held merge a b (unread answer few is) (too_many many) = absurd (omega arith)
merges_agree held merge a b (unread answer few is) (unread other fewer again) = outcomes_err answer other (reads_once _ (Err answer) (Err other) is again)
merges_agree held merge a b (unread answer few is) (all_merged records fewer again) = absurd
    (outcomes_apart records answer (reads_once _ (Ok records) (Err answer) again is))
merges_agree held merge a b (all_merged records few is) (too_many many) = absurd (omega arith)
merges_agree held merge a b (all_merged records few is) (unread other fewer again) = absurd
    (outcomes_apart records other (reads_once _ (Ok records) (Err other) is again))
merges_agree held merge a b (all_merged records few is) (all_merged others fewer again) = ap (stored_at merge.out)
    (outcomes_ok records others (reads_once _ (Ok records) (Ok others) is again))

-- where there is no reason to stop, the merged file is stored
pub done_unless_wrong : (held : Names) (merge : Merging) (answer : Answer) → length merge.files ≤ most Files
    → IsReadOn (all_arrivals held keeps_all merge.files) → IsMergeAnswer held merge answer
    → answer ≡ stored_at merge.out (records_in (all_arrivals held keeps_all merge.files))
done_unless_wrong held merge answer few on is =
    merges_agree held merge answer (stored_at merge.out (records_in (all_arrivals held keeps_all merge.files))) is
    (all_merged (records_in (all_arrivals held keeps_all merge.files)) few (all_read on))
