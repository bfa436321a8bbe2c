-- What a `cover` leaves, step by step.
use Rattle.std.proofs.Common.{◌≡◌, ◌<◌, ◌≤◌, ℕ, Bool, true, false, List, [], ◌++◌, length, inl, inr, refl, sym, ◌∙◌, ap, subst, Option, None, Some, Bor}
use Rattle.std.specs.Prelude.{IfSome, if◌then◌else◌}
use Rattle.cov_types.specs.Limits.{most}
use Rattle.cov_types.specs.declared.limit.LimitName.TheVariants.{Files}
use Rattle.cov_port.specs.Files.{Names, FileFaults}
use Rattle.cov_dat.specs.Merging.{Counts}
use Rattle.cov_words.specs.Command.{Covering}
use Rattle.test_rank.specs.Ranking.{Covers, rank_text}
use Rattle.test_rank.specs.declared.ranking.RankRow.{RankRow}
use Rattle.command_ending.specs.Answer.{Answer, done, over_limit, refused_with}
use Rattle.command_ending.specs.Ending.{line_at, status_at}
use Rattle.command_ending.specs.Stops.{IsRefusal, Stops, wants_memory, lacks_name, cannot_open, cannot_read, refuses}
use Rattle.command_ending.specs.declared.ending.Ending.{Ending}
use Rattle.command_ending.specs.declared.status.Status.{Status}
use Rattle.command_ending.specs.declared.status.Status.TheVariants.{BadData}
use Rattle.command_ending.proofs.NamesLemmas.{length-seen, seen}
use Rattle.command_ending.proofs.PutLemmas.{always_told, if_told}
use Rattle.command_ending.proofs.StopLemmas.{refusal_stops, stops_weaker}
use Rattle.command_cover.specs.Sparing.{IsSparing, TakesFewOf}
use Rattle.cover_answer.specs.CoverAnswer.{IsCoverAnswer, RanksIf, arrivals_for, counts_in, reported, too_many, unread, unreported}
use Rattle.cover_answer.specs.CoverPromise.{CoverRefuses, cover_promise, in_file, in_report, too_many_pairs}
use Rattle.cover_answer.specs.CoverPromise as promise
use Rattle.cover_answer.specs.Gathering.{Gathers, covers_in}
use Rattle.cover_answer.specs.Reports.{cover_stores, in_key_order, report_refusal}
use Rattle.cover_answer.proofs.GatherLemmas.{gathers_once}
use Rattle.cover_gather.specs.Gather.{GatherRefuses, IsGatheredTo, gather_promise}
use Rattle.cover_gather.specs.Gather as gather
use Rattle.cover_reporting.specs.Reporting.{reports_promise, total_for}
use Rattle.cover_files.specs.Sparing.{CoverSpares}

-- All data files were read, where it is told what they hold.
abbrev pub IsRead : Covering → Option Names → Counts → Covers → Type 0
IsRead asked told sums covers = IfSome told (λ held. IsGatheredTo asked.rank (arrivals_for held asked) sums covers)

-- the data files, as a command is given their names
pub few_files : (asked : Covering) (names : List (Bor (List ℕ))) → seen names ≡ asked.files → length names ≤ most Files → length asked.files ≤ most Files
few_files asked names same few = subst (λ (l : List (List ℕ)). length l ≤ most Files) same (rw (length-seen names) few)

-- ---- refusals

limit_of : (asked : Covering) (status : Status) (line : List ℕ) → most Files < length asked.files → refused_with status line ≡ over_limit Files
    → CoverRefuses asked status line
limit_of asked status line many is = subst (λ (a : Answer). CoverRefuses asked a.status a.line) (sym is) (promise.too_many many)

-- more files than are read
pub many_stop : (asked : Covering) (told : Option Names) (faults : FileFaults) (e : Ending) → most Files < length asked.files
    → IsRefusal (λ answer. answer ≡ over_limit Files) e → Stops (cover_promise asked) told faults faults e
many_stop asked told faults e many is =
    refusal_stops (cover_promise asked) (λ answer. answer ≡ over_limit Files) told faults faults e refl
    (λ status line same. limit_of asked status line many same)
    (always_told told _ (λ held answer same. subst (IsCoverAnswer held asked) (sym same) (too_many many))) is

read_refuses : (asked : Covering) (status : Status) (line : List ℕ) → length asked.files ≤ most Files → GatherRefuses asked.rank asked.files status line
    → CoverRefuses asked status line
read_refuses asked status line few (gather.in_file name s l there is) = in_file name s l few there is
read_refuses asked status line few (gather.too_many_pairs on) = too_many_pairs few on

-- data files of which one is refused
pub unread_stops : (asked : Covering) (told : Option Names) (before now : FileFaults) (e : Ending) → length asked.files ≤ most Files
    → Stops (gather_promise asked.rank asked.filter_type asked.files) told before now e → Stops (cover_promise asked) told before now e
unread_stops asked told before now e few is =
    stops_weaker (gather_promise asked.rank asked.filter_type asked.files) (cover_promise asked) told before now e (λ name there. (few, inl there))
    (λ status line one. read_refuses asked status line few one)
    (always_told told _ (λ held answer one. unread answer few one)) is

same_counts : (asked : Covering) (held : Names) (sums : Counts) (covers : Covers) → IsGatheredTo asked.rank (arrivals_for held asked) sums covers
    → in_key_order sums ≡ counts_in (arrivals_for held asked)
same_counts asked held sums covers is = ap in_key_order is.counts_is

-- reports that aren't made
pub unreported_stops : (asked : Covering) (told : Option Names) (sums : Counts) (covers : Covers) (before now : FileFaults) (e : Ending)
    → length asked.files ≤ most Files → IsRead asked told sums covers
    → Stops (reports_promise asked (in_key_order sums)) told before now e → Stops (cover_promise asked) told before now e
unreported_stops asked told sums covers before now e few read is =
    stops_weaker (reports_promise asked (in_key_order sums)) (cover_promise asked) told before now e (λ name may. (few, inr may))
    (λ status line one. in_report status line few one)
    (if_told told _ _ (λ held one answer reason. unreported answer few one.gathers
    (ap (report_refusal held asked) (sym (same_counts asked held sums covers one)) ∙ reason)) read) is

-- ---- what is printed and stored

one_answer : (asked : Covering) (held : Names) (sums : Counts) (covers : Covers) (rows : List RankRow) (text total : List ℕ) (stores : List (List ℕ × List ℕ))
    → length asked.files ≤ most Files → IsGatheredTo asked.rank (arrivals_for held asked) sums covers
    → total ≡ total_for asked (in_key_order sums) → stores ≡ cover_stores held asked (in_key_order sums) → report_refusal held asked (in_key_order sums) ≡ None
    → RanksIf asked.rank covers rows → text ≡ (if asked.rank then rank_text asked.files rows else []) ++ total
    → IsCoverAnswer held asked (done text stores)
one_answer asked held sums covers rows text total stores few is total_is stores_is sound ranks text_is =
    let counts = same_counts asked held sums covers is in
    let out = text_is ∙ ap (λ (l : List ℕ). (if asked.rank then rank_text asked.files rows else []) ++ l) (total_is ∙ ap (total_for asked) counts) in
    let kept = stores_is ∙ ap (cover_stores held asked) counts in
    subst (IsCoverAnswer held asked) (sym (ap (λ (t : List ℕ). done t stores) out ∙ ap (done _) kept))
    (reported rows few is.gathers (ap (report_refusal held asked) (sym counts) ∙ sound) (ranks_of asked.rank is.covers_is ranks)) where
      ranks_of : (b : Bool) → (b ≡ true → covers ≡ covers_in (arrivals_for held asked)) → RanksIf b covers rows
          → RanksIf b (covers_in (arrivals_for held asked)) rows
      ranks_of true same one = subst (λ (c : Covers). RanksIf true c rows) (same refl) one
      ranks_of false same one = tt

-- all that is asked for
pub cover_answers : (asked : Covering) (told : Option Names) (sums : Counts) (covers : Covers) (rows : List RankRow) (text total : List ℕ)
    (stores : List (List ℕ × List ℕ)) → length asked.files ≤ most Files → IsRead asked told sums covers
    → total ≡ total_for asked (in_key_order sums) → IfSome told (λ held. stores ≡ cover_stores held asked (in_key_order sums))
    → IfSome told (λ held. report_refusal held asked (in_key_order sums) ≡ None)
    → RanksIf asked.rank covers rows → text ≡ (if asked.rank then rank_text asked.files rows else []) ++ total
    → IfSome told (λ held. IsCoverAnswer held asked (done text stores))
cover_answers asked None sums covers rows text total stores few read total_is stores_is sound ranks text_is = tt
cover_answers asked (Some held) sums covers rows text total stores few read total_is stores_is sound ranks text_is =
    one_answer asked held sums covers rows text total stores few read total_is stores_is sound ranks text_is

-- ---- how much is taken

none_or_some : (a : Answer) → None ≡ Some a → ⊥
none_or_some a is = absurd (cc)

some_same : (a b : Answer) → Some a ≡ Some b → a ≡ b
some_same a b is = cc

-- where all data files are read, none is refused
pub read_spares : (asked : Covering) (told : Option Names) (sums : Counts) (covers : Covers) (ended : Status) (rest : Option (List ℕ))
    → IsRead asked told sums covers
    → IfSome told (CoverSpares asked ended rest)
read_spares asked told sums covers ended rest read =
    if_told told _ _ (λ held one bad answer stops.
    absurd (none_or_some answer (gathers_once asked.rank (arrivals_for held asked) None (Some answer) one.gathers stops))) read

-- a status other than `BadData` refuses no line
pub other_spares : (asked : Covering) (told : Option Names) (ended : Status) (rest : Option (List ℕ))
    → (ended ≡ BadData → ⊥) → IfSome told (CoverSpares asked ended rest)
other_spares asked told ended rest other = always_told told _ (λ held bad. absurd (other bad))

refused_line : (asked : Covering) (held : Names) (status : Status) (line : List ℕ) (rest : Option (List ℕ)) → TakesFewOf asked.files line rest held
    → Gathers asked.rank (arrivals_for held asked) (Some (refused_with status line)) → (answer : Answer)
    → Gathers asked.rank (arrivals_for held asked) (Some answer) → TakesFewOf asked.files answer.line rest held
refused_line asked held status line rest few stops answer again =
    subst (λ (a : Answer). TakesFewOf asked.files a.line rest held)
    (some_same (refused_with status line) answer (gathers_once asked.rank (arrivals_for held asked) (Some (refused_with status line))
    (Some answer) stops again)) few

-- data files of which one is refused at a line
pub unread_spares : (asked : Covering) (told : Option Names) (before now : FileFaults) (e : Ending) (rest : Option (List ℕ))
    → Stops (gather_promise asked.rank asked.filter_type asked.files) told before now e
    → IsSparing asked.files (status_at e) (line_at e) rest told → IfSome told (CoverSpares asked (status_at e) rest)
unread_spares asked told before now e rest (wants_memory quiet) few = other_spares asked told _ rest (λ bad. absurd (cc))
unread_spares asked told before now e rest (lacks_name name line reads is quiet lacking) few = other_spares asked told _ rest (λ bad. absurd (cc))
unread_spares asked told before now e rest (cannot_open name line reads is rose) few = other_spares asked told _ rest (λ bad. absurd (cc))
unread_spares asked told before now e rest (cannot_read name line reads is rose) few = other_spares asked told _ rest (λ bad. absurd (cc))
unread_spares asked None before now e rest (refuses status line refusal may quiet is) few = tt
unread_spares asked (Some held) before now e rest (refuses status line refusal may quiet is) few =
    λ bad answer stops. refused_line asked held status line rest (few bad) is answer stops
