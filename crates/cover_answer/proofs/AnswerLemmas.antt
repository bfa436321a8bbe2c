-- A `cover` has one answer, and one that only stores the merged file is a merge.
use Rattle.std.proofs.Common.{◌≡◌, ℕ, Bool, true, false, cond, List, [], ◌++◌, refl, ap, subst, Option, None, Some, Ok, Err, arith}
use Rattle.cov_port.specs.Files.{Names}
use Rattle.cov_dat.specs.declared.record_list.Record.{Record}
use Rattle.cov_words.specs.Command.{Covering}
use Rattle.test_rank.specs.Laws.{OneRanking}
use Rattle.test_rank.specs.Ranking.{Covers, rank_text}
use Rattle.test_rank.specs.declared.ranking.RankRow.{RankRow}
use Rattle.command_ending.specs.Answer.{Answer, done}
use Rattle.command_cover.specs.CoverReading.{all_arrivals, records_in}
use Rattle.command_cover.specs.Laws.{MergesInAnyOrder}
use Rattle.command_cover.specs.Merge.{IsMergeAnswer, keeps_all, merge_to, stored_at}
use Rattle.command_cover.specs.Merge as merge
use Rattle.cover_answer.specs.CoverAnswer.{IsCoverAnswer, too_many, unread, unreported, reported, RanksIf, arrivals_for, counts_in, reported_with}
use Rattle.cover_answer.specs.Gathering.{all_gathered, covers_in}
use Rattle.cover_answer.specs.Laws.{IsDoneUnlessWrong, OneCover, WritesInAnyOrder, WritingMerges, writing}
use Rattle.cover_answer.specs.Reports.{cover_stores, minimum_of, prints_total, report_refusal}
use Rattle.report_text.specs.Totals.{total_text}
use Rattle.cover_answer.proofs.GatherLemmas.{as_gathering, as_reading, gathers_once, none_some, read_whole, some_same}

abbrev goes_on : Option Answer
goes_on = None

abbrev stops : Answer → Option Answer
stops a = Some a

stops_same : (a b : Answer) → stops a ≡ stops b → a ≡ b
stops_same a b is = cc

stops_apart : (a : Answer) → goes_on ≡ stops a → ⊥
stops_apart a is = absurd (cc)

-- the table of a ranking is one
same_table : OneRanking → (b : Bool) (covers : Covers) (names : List (List ℕ)) (rows others : List RankRow) → RanksIf b covers rows → RanksIf b covers others
    → cond b (rank_text names rows) [] ≡ cond b (rank_text names others) []
same_table law true covers names rows others one two = ap (rank_text names) (law covers rows others one two)
same_table law false covers names rows others one two = refl

same_reports : OneRanking → (held : Names) (asked : Covering) (rows others : List RankRow)
    → RanksIf asked.rank (covers_in (arrivals_for held asked)) rows → RanksIf asked.rank (covers_in (arrivals_for held asked)) others
    → reported_with held asked rows ≡ reported_with held asked others
same_reports law held asked rows others one two =
    ap (λ (table : List ℕ). done (table ++ cond (prints_total asked) (total_text (minimum_of asked) (counts_in (arrivals_for held asked))) [])
    (cover_stores held asked (counts_in (arrivals_for held asked))))
    (same_table law asked.rank (covers_in (arrivals_for held asked)) asked.files rows others one two)

pub covers_agree : OneRanking → OneCover
covers_agree law held asked a b (too_many many) (too_many more) = refl
covers_agree law held asked a b (too_many many) (unread answer few g) = absurd (omega arith)
covers_agree law held asked a b (too_many many) (unreported answer few g is) = absurd (omega arith)
covers_agree law held asked a b (too_many many) (reported rows few g is ranks) = absurd (omega arith)
covers_agree law held asked a b (unread answer few g) (too_many many) = absurd (omega arith)
covers_agree law held asked a b (unread answer few g) (unread other fewer h) = stops_same answer other (gathers_once _ _ (Some answer) (Some other) g h)
covers_agree law held asked a b (unread answer few g) (unreported other fewer h is) = absurd (stops_apart answer (gathers_once _ _ None (Some answer) h g))
covers_agree law held asked a b (unread answer few g) (reported rows fewer h is ranks) = absurd (stops_apart answer (gathers_once _ _ None (Some answer) h g))
covers_agree law held asked a b (unreported answer few g is) (too_many many) = absurd (omega arith)
covers_agree law held asked a b (unreported answer few g is) (unread other fewer h) = absurd (stops_apart other (gathers_once _ _ None (Some other) g h))
covers_agree law held asked a b (unreported answer few g is) (unreported other fewer h also) = some_same
    (report_refusal held asked (counts_in (arrivals_for held asked))) answer other is also
covers_agree law held asked a b (unreported answer few g is) (reported rows fewer h none ranks) = absurd
    (none_some (report_refusal held asked (counts_in (arrivals_for held asked))) answer none is)
covers_agree law held asked a b (reported rows few g none ranks) (too_many many) = absurd (omega arith)
covers_agree law held asked a b (reported rows few g none ranks) (unread other fewer h) = absurd (stops_apart other (gathers_once _ _ None (Some other) g h))
covers_agree law held asked a b (reported rows few g none ranks) (unreported other fewer h is) = absurd
    (none_some (report_refusal held asked (counts_in (arrivals_for held asked))) other none is)
covers_agree law held asked a b (reported rows few g none ranks) (reported others fewer h again also) = same_reports law held asked rows others ranks also

pub done_unless_wrong : IsDoneUnlessWrong
done_unless_wrong held asked answer few on none (too_many many) = absurd (omega arith)
done_unless_wrong held asked answer few on none (unread other fewer h) = absurd (stops_apart other (gathers_once _ _ None (Some other) (all_gathered on) h))
done_unless_wrong held asked answer few on none (unreported other fewer h is) = absurd
    (none_some (report_refusal held asked (counts_in (arrivals_for held asked))) other none is)
done_unless_wrong held asked answer few on none (reported rows fewer h again ranks) = (rows, refl, ranks)

-- ---- a `cover` that only stores the merged file

to_merge : (held : Names) (out : List ℕ) (files : List (List ℕ)) (a : Answer) → IsCoverAnswer held (writing out files) a
    → IsMergeAnswer held (merge_to out files) a
to_merge held out files a (too_many many) = merge.too_many many
to_merge held out files a (unread answer few g) = merge.unread answer few (as_reading _ (Some answer) g)
to_merge held out files a (unreported answer few g is) = absurd (stops_apart answer is)
to_merge held out files a (reported rows few g none ranks) = merge.all_merged (records_in (all_arrivals held keeps_all files)) few (as_reading _ None g)

from_merge : (held : Names) (out : List ℕ) (files : List (List ℕ)) (a : Answer) → IsMergeAnswer held (merge_to out files) a
    → IsCoverAnswer held (writing out files) a
from_merge held out files a (merge.too_many many) = too_many many
from_merge held out files a (merge.unread answer few r) = unread answer few (as_gathering _ (Err answer) r)
from_merge held out files a (merge.all_merged records few r) =
    subst (λ (rs : List Record). IsCoverAnswer held (writing out files) (stored_at out rs))
    (read_whole (all_arrivals held keeps_all files) records (Ok records) r refl)
    (reported [] few (as_gathering _ (Ok records) r) refl tt)

pub merges : WritingMerges
merges held out files a = (to_merge held out files a, from_merge held out files a)

pub any_order : MergesInAnyOrder → WritingMerges → WritesInAnyOrder
any_order law same held out xs ys a other is ended =
    (same held out ys a).1 (law held out xs ys a other ((same held out xs a).0 is) ended)
