-- Records that a filter keeps or drops, ends of files, and files one after the other.
use Rattle.std.proofs.Common.{◌≡◌, ℕ, Bool, true, false, cond, List, [], ◌∷◌, ◌++◌, inl, inr, refl, sym, ◌∙◌, ap, subst, Option, None, Some, Ok, Err}
use Rattle.std.proofs.lemmas.Bool.{cases_Bool}
use Rattle.std.specs.Prelude.{IfSome, Contains}
use Rattle.cov_port.specs.Files.{Names, FileFaults}
use Rattle.cov_types.specs.declared.limit.LimitName.{LimitName}
use Rattle.cov_types.specs.declared.limit.LimitName.TheVariants.{CoveredPairs}
use Rattle.cov_dat.specs.Merging.{added, limit_passed}
use Rattle.cov_dat.specs.Reading.{with_record}
use Rattle.cov_dat.specs.declared.record_list.RecordList.{RecordList}
use Rattle.cov_dat.specs.declared.merge_fault.MergeFault.{MergeFault}
use Rattle.cov_dat.specs.declared.merge_fault.MergeFault.TheVariants as merge_fault
use Rattle.test_rank.specs.declared.fault.RankFault.{RankFault}
use Rattle.test_rank.specs.declared.fault.RankFault.TheVariants as rank_fault
use Rattle.test_rank.specs.Ranking as ranking
use Rattle.command_ending.specs.Answer.{Answer, over_limit}
use Rattle.command_ending.specs.Ending.{status_at}
use Rattle.command_ending.specs.Stops.{IsRefusal, without_memory, refused, Stops, taking}
use Rattle.command_ending.specs.declared.ending.Ending.{Ending}
use Rattle.command_ending.specs.declared.status.Status.TheVariants.{BadData}
use Rattle.command_ending.proofs.PutLemmas.{always_told, if_told, if_told_both}
use Rattle.command_ending.proofs.StopLemmas.{refusal_weaker, stops_weaker}
use Rattle.command_cover.specs.CoverReading.{Arrival, arrived, ended, stopped, arrivals_of, file_arrivals, all_arrivals}
use Rattle.command_cover.proofs.StepLemmas.{merge_limit}
use Rattle.cover_gather.specs.Steps.{TallyState, PassesLimit, IsReadingLimit, of_data, of_pairs, closed, continued, file_promise, files_promise, limit_at_end}
use Rattle.cover_gather.specs.Steps.{one_arrival, or_limit, record_of, tallied, with_test}

-- ---- one step

-- what comes of a record goes before the rest
pub records_split : (keeps : List ℕ → Bool) (name key : List ℕ) (count : ℕ) (left : RecordList)
    → arrivals_of keeps name (with_record key count left) ≡ one_arrival keeps key count ++ arrivals_of keeps name left
records_split keeps name key count left = elim (cases_Bool (keeps key)) [ inl e ↦ rw e refl | inr e ↦ rw e refl ]

-- a record that isn't kept changes nothing
pub dropped : (keeps : List ℕ → Bool) (ranks : Bool) (t : TallyState) (key : List ℕ) (count : ℕ) → keeps key ≡ false
    → continued ranks t (one_arrival keeps key count) ≡ Ok t
dropped keeps ranks t key count e = rw e refl

within_limit : (o : Option LimitName) (t : TallyState) → o ≡ None → or_limit o (Ok t) ≡ Ok t
within_limit o t e = rw e refl

past_limit : (o : Option LimitName) (t : TallyState) (limit : LimitName) → o ≡ Some limit → or_limit o (Ok t) ≡ Err (over_limit limit)
past_limit o t limit e = rw e refl

-- a record that is kept is added
pub taken : (keeps : List ℕ → Bool) (ranks : Bool) (t : TallyState) (key : List ℕ) (count : ℕ) → keeps key ≡ true
    → limit_passed (added t.counts key count) ≡ None
    → continued ranks t (one_arrival keeps key count) ≡ Ok (tallied ranks t (record_of key count))
taken keeps ranks t key count e within = rw e (within_limit (limit_passed (added t.counts key count)) (tallied ranks t (record_of key count)) within)

past_one : (keeps : List ℕ → Bool) (ranks : Bool) (t : TallyState) (key : List ℕ) (count : ℕ) (limit : LimitName) → keeps key ≡ true
    → limit_passed (added t.counts key count) ≡ Some limit → continued ranks t (one_arrival keeps key count) ≡ Err (over_limit limit)
past_one keeps ranks t key count limit e past = rw e (past_limit (limit_passed (added t.counts key count)) (tallied ranks t (record_of key count)) limit past)

-- a record that is kept, and takes the counts past a limit
pub passes : (keeps : List ℕ → Bool) (ranks : Bool) (t : TallyState) (key : List ℕ) (count : ℕ) (flaw : MergeFault) (e : Ending) → keeps key ≡ true
    → ((limit : LimitName) → flaw ≡ merge_fault.Limit limit → limit_passed (added t.counts key count) ≡ Some limit)
    → IsRefusal (λ answer. (limit : LimitName) × (flaw ≡ merge_fault.Limit limit) × (answer ≡ over_limit limit)) e
    → IsRefusal (PassesLimit ranks t (one_arrival keeps key count)) e
passes keeps ranks t key count flaw e kept past is =
    refusal_weaker _ (PassesLimit ranks t (one_arrival keeps key count)) e (λ a one. record {
      limit = one.0;
      may = of_data one.0 (merge_limit (added t.counts key count) one.0 (past one.0 one.1));
      outcome = past_one keeps ranks t key count one.0 kept (past one.0 one.1);
      said = one.2;
    }) is

-- a file that ends
pub ends : (ranks : Bool) (t : TallyState) → limit_at_end ranks t ≡ None → continued ranks t (ended ∷ []) ≡ Ok (closed ranks t)
ends ranks t within = within_limit (limit_at_end ranks t) (closed ranks t) within

pairs_limit : (covers : ranking.Covers) (limit : LimitName) → ranking.limit_passed covers ≡ Some limit → CoveredPairs ≡ limit
pairs_limit covers limit is = which _ is where
  which : (b : Bool) → cond b (Some CoveredPairs) None ≡ Some limit → CoveredPairs ≡ limit
  which true so = cc
  which false so = absurd (cc)

end_limit : (ranks : Bool) (t : TallyState) (limit : LimitName) → limit_at_end ranks t ≡ Some limit → IsReadingLimit ranks limit
end_limit false t limit is = absurd (cc)
end_limit true t limit is = subst (IsReadingLimit true) (pairs_limit (with_test t) limit is) (of_pairs refl)

-- the end of a file that takes the covered pairs past their limit
pub ends_past : (ranks : Bool) (t : TallyState) (flaw : RankFault) (e : Ending)
    → ((limit : LimitName) → flaw ≡ rank_fault.Limit limit → limit_at_end ranks t ≡ Some limit)
    → IsRefusal (λ answer. (limit : LimitName) × (flaw ≡ rank_fault.Limit limit) × (answer ≡ over_limit limit)) e
    → IsRefusal (PassesLimit ranks t (ended ∷ [])) e
ends_past ranks t flaw e past is =
    refusal_weaker _ (PassesLimit ranks t (ended ∷ [])) e (λ a one. record {
      limit = one.0;
      may = end_limit ranks t one.0 (past one.0 one.1);
      outcome = past_limit (limit_at_end ranks t) (closed ranks t) one.0 (past one.0 one.1);
      said = one.2;
    }) is

-- the limit on merged keys of a fault
pub limit_refusal : (fault : MergeFault) (limit : LimitName) (e : Ending) → fault ≡ merge_fault.Limit limit → IsRefusal (λ answer. answer ≡ over_limit limit) e
    → IsRefusal (λ answer. (found : LimitName) × (fault ≡ merge_fault.Limit found) × (answer ≡ over_limit found)) e
limit_refusal fault limit e same is = refusal_weaker _ _ e (λ a one. (limit, same, one)) is

-- the limit on covered pairs of a fault
pub pairs_refusal : (fault : RankFault) (limit : LimitName) (e : Ending) → fault ≡ rank_fault.Limit limit → IsRefusal (λ answer. answer ≡ over_limit limit) e
    → IsRefusal (λ answer. (found : LimitName) × (fault ≡ rank_fault.Limit found) × (answer ≡ over_limit found)) e
pairs_refusal fault limit e same is = refusal_weaker _ _ e (λ a one. (limit, same, one)) is

-- a limit refuses no line
pub limit_is_no_line : (ranks : Bool) (t : TallyState) (arrivals : List Arrival) (e : Ending) → IsRefusal (PassesLimit ranks t arrivals) e
    → status_at e ≡ BadData → ⊥
limit_is_no_line ranks t arrivals e without_memory bad = absurd (cc)
limit_is_no_line ranks t arrivals e (refused status line refusal is) bad = let same = ap (λ (a : Answer). a.status) is.said in absurd (cc)

-- ---- behind further arrivals

pub continued-append-ok : (ranks : Bool) (t more : TallyState) (first rest : List Arrival) → continued ranks t first ≡ Ok more
    → continued ranks t (first ++ rest) ≡ continued ranks more rest
continued-append-ok ranks t more [] rest is = let same : t ≡ more = cc in ap (λ (s : TallyState). continued ranks s rest) same
continued-append-ok ranks t more (stopped answer ∷ first) rest is = absurd (cc)
continued-append-ok ranks t more (ended ∷ first) rest is =
    elim (limit_at_end ranks t) as (λ o. or_limit o (continued ranks (closed ranks t) first) ≡ Ok more
    → or_limit o (continued ranks (closed ranks t) (first ++ rest)) ≡ continued ranks more rest) [
      | None ↦ λ e. continued-append-ok ranks (closed ranks t) more first rest e
      | Some name ↦ λ e. absurd (cc)
    ] is
continued-append-ok ranks t more (arrived r ∷ first) rest is =
    elim (limit_passed (added t.counts r.key r.count)) as (λ o. or_limit o (continued ranks (tallied ranks t r) first) ≡ Ok more
    → or_limit o (continued ranks (tallied ranks t r) (first ++ rest)) ≡ continued ranks more rest) [
      | None ↦ λ e. continued-append-ok ranks (tallied ranks t r) more first rest e
      | Some name ↦ λ e. absurd (cc)
    ] is

pub continued-append-err : (ranks : Bool) (t : TallyState) (first rest : List Arrival) (answer : Answer) → continued ranks t first ≡ Err answer
    → continued ranks t (first ++ rest) ≡ Err answer
continued-append-err ranks t [] rest answer is = absurd (cc)
continued-append-err ranks t (stopped s ∷ first) rest answer is = is
continued-append-err ranks t (ended ∷ first) rest answer is =
    elim (limit_at_end ranks t) as (λ o. or_limit o (continued ranks (closed ranks t) first) ≡ Err answer
    → or_limit o (continued ranks (closed ranks t) (first ++ rest)) ≡ Err answer) [
      | None ↦ λ e. continued-append-err ranks (closed ranks t) first rest answer e
      | Some name ↦ λ e. e
    ] is
continued-append-err ranks t (arrived r ∷ first) rest answer is =
    elim (limit_passed (added t.counts r.key r.count)) as (λ o. or_limit o (continued ranks (tallied ranks t r) first) ≡ Err answer
    → or_limit o (continued ranks (tallied ranks t r) (first ++ rest)) ≡ Err answer) [
      | None ↦ λ e. continued-append-err ranks (tallied ranks t r) first rest answer e
      | Some name ↦ λ e. e
    ] is

-- ---- files

-- a file that can't be taken
pub untaken_stops : (keeps : List ℕ → Bool) (ranks : Bool) (held : Option Names) (name : List ℕ) (t : TallyState) (before now : FileFaults) (e : Ending)
    → Stops (taking name) held before now e → Stops (file_promise keeps ranks t name) held before now e
untaken_stops keeps ranks held name t before now e is =
    stops_weaker (taking name) (file_promise keeps ranks t name) held before now e (λ other same. same) (λ status line never. absurd never)
    (always_told held _ (λ h answer one. ap (λ (o : Option (List ℕ)). continued ranks t (file_arrivals keeps name o)) one.0 ∙ ap Err (sym one.1))) is

-- files of which the first is read go on with the others
pub added_first : (keeps : List ℕ → Bool) (ranks : Bool) (told : Option Names) (t more first : TallyState) (name : List ℕ) (names all : List (List ℕ))
    → IfSome told (λ held. continued ranks t (file_arrivals keeps name (held name)) ≡ Ok more)
    → IfSome told (λ held. continued ranks t (all_arrivals held keeps (name ∷ names)) ≡ continued ranks first (all_arrivals held keeps all))
    → IfSome told (λ held. continued ranks more (all_arrivals held keeps names) ≡ continued ranks first (all_arrivals held keeps all))
added_first keeps ranks told t more first name names all one before =
    if_told_both told _ _ _ (λ held is so.
    sym (continued-append-ok ranks t more (file_arrivals keeps name (held name)) (all_arrivals held keeps names) is) ∙ so) one before

-- files of which the first is refused are refused
pub refused_first : (keeps : List ℕ → Bool) (ranks : Bool) (told : Option Names) (t first : TallyState) (name : List ℕ) (names all : List (List ℕ))
    (before now : FileFaults) (e : Ending) → Contains all name
    → IfSome told (λ held. continued ranks t (all_arrivals held keeps (name ∷ names)) ≡ continued ranks first (all_arrivals held keeps all))
    → Stops (file_promise keeps ranks t name) told before now e → Stops (files_promise keeps ranks first all) told before now e
refused_first keeps ranks told t first name names all before now e there so is =
    stops_weaker (file_promise keeps ranks t name) (files_promise keeps ranks first all) told before now e (λ other same. subst (Contains all) (sym same) there)
    (λ status line one. (name, there, one))
    (if_told told _ _ (λ held same answer one.
    sym same ∙ continued-append-err ranks t (file_arrivals keeps name (held name)) (all_arrivals held keeps names) answer one) so) is
