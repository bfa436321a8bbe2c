-- Files in another order.
use Rattle.std.proofs.Common.{◌≡◌, ◌≤◌, ℕ, List, [], ◌∷◌, ◌++◌, map, length, refl, sym, ◌∙◌, ap, subst, Option, None, Some, Ok, Err, IsPermutation}
use Rattle.std.proofs.Common.{append_assoc, arith}
use Rattle.std.specs.Prelude.{filter, option_map}
use Rattle.std.specs.List.{All}
use Rattle.std.proofs.lemmas.List.{append-nil}
use Rattle.std.proofs.lemmas.List.Elements.{All-cons, All-head, All-nil, All-tail}
use Rattle.std.proofs.lemmas.List.Sorted.{All-permutation, IsPermutation-map, length_permutation}
use Rattle.cov_port.specs.Files.{Names}
use Rattle.cov_dat.specs.DataText.{CountMap, count_map, data_text}
use Rattle.cov_dat.specs.Laws.{FilesInAnyOrder, LimitsInAnyOrder, LimitsStay, all_records}
use Rattle.cov_dat.specs.Merging.{limit_passed, merged}
use Rattle.cov_dat.specs.Reading.{reading}
use Rattle.cov_dat.specs.declared.fault.DataFault.{DataFault}
use Rattle.cov_dat.specs.declared.fault.DataFault.TheVariants as fault
use Rattle.cov_types.specs.Limits.{most}
use Rattle.cov_types.specs.declared.limit.LimitName.{LimitName}
use Rattle.cov_types.specs.declared.limit.LimitName.TheVariants.{Files}
use Rattle.cov_dat.specs.declared.record_list.Record.{Record}
use Rattle.command_ending.specs.Answer.{Answer, done, over_limit}
use Rattle.command_ending.specs.declared.status.Status.TheVariants.{Done, Limit}
use Rattle.command_cover.specs.CoverReading.{Arrival, arrived, ended, stopped, IsReadOn, IsReading, all_read, stops_at, all_arrivals, end_of, file_arrivals}
use Rattle.command_cover.specs.CoverReading.{reason_at, records_in, refusal_of}
use Rattle.command_cover.specs.Laws.{MergesInAnyOrder}
use Rattle.command_cover.specs.Merge.{IsMergeAnswer, too_many, unread, all_merged, keeps_all, merge_to, stored_at}
use Rattle.command_cover.proofs.ReadingLemmas.{records_append}

-- the records of each file
abbrev file_records : Names → List ℕ → List Record
file_records held name = records_in (file_arrivals keeps_all name (held name))

records_of_all : (held : Names) (names : List (List ℕ)) → records_in (all_arrivals held keeps_all names) ≡ all_records (map (file_records held) names)
records_of_all held [] = refl
records_of_all held (name ∷ names) =
    records_append (file_arrivals keeps_all name (held name)) (all_arrivals held keeps_all names)
    ∙ ap (λ (rs : List Record). file_records held name ++ rs) (records_of_all held names)

-- a reason to stop is not that all is done
abbrev IsStop : Arrival → Type 0
IsStop (arrived r) = Unit {0}
IsStop ended = Unit {0}
IsStop (stopped answer) = answer.status ≡ Done → ⊥

abbrev AreStops : List Arrival → Type 0
AreStops [] = Unit {0}
AreStops (a ∷ rest) = IsStop a × AreStops rest

stops_append : (xs ys : List Arrival) → AreStops xs → AreStops ys → AreStops (xs ++ ys)
stops_append [] ys one two = two
stops_append (x ∷ xs) ys one two = (one.0, stops_append xs ys one.1 two)

stop_within : (before : List Arrival) (a : Arrival) (after : List Arrival) → AreStops (before ++ a ∷ after) → IsStop a
stop_within [] a after all = all.0
stop_within (b ∷ before) a after all = stop_within before a after all.1

records_stop : (rs : List Record) → AreStops (map arrived rs)
records_stop [] = tt
records_stop (r ∷ rs) = (tt, records_stop rs)

fault_stops : (name : List ℕ) (f : DataFault) → (refusal_of name f).status ≡ Done → ⊥
fault_stops name (fault.BadHeader n) is = absurd (cc)
fault_stops name (fault.BadRecord n) is = absurd (cc)
fault_stops name (fault.BadCount n) is = absurd (cc)
fault_stops name (fault.LineTooLong n) is = absurd (cc)
fault_stops name fault.Failed is = absurd (cc)
fault_stops name (fault.Limit limit) is = absurd (cc)

end_stops : (name : List ℕ) (o : Option DataFault) → IsStop (end_of name o)
end_stops name None = tt
end_stops name (Some f) = fault_stops name f

file_stops : (name : List ℕ) (o : Option (List ℕ)) → AreStops (file_arrivals keeps_all name o)
file_stops name None = ((λ is. absurd (cc)), tt)
file_stops name (Some text) = stops_append (map arrived (filter (λ (r : Record). keeps_all r.key) (reading text).records))
    (end_of name (reading text).fault ∷ [])
    (records_stop (filter (λ (r : Record). keeps_all r.key) (reading text).records)) (end_stops name (reading text).fault, tt)

all_stop : (held : Names) (names : List (List ℕ)) → AreStops (all_arrivals held keeps_all names)
all_stop held [] = tt
all_stop held (name ∷ names) = stops_append (file_arrivals keeps_all name (held name)) (all_arrivals held keeps_all names) (file_stops name (held name))
    (all_stop held names)

limit_stops : (o : Option LimitName) (answer : Answer) → option_map over_limit o ≡ Some answer → answer.status ≡ Done → ⊥
limit_stops None answer is over = absurd (cc)
limit_stops (Some name) answer is over = let same : over_limit name ≡ answer = cc in let no : Limit ≡ Done = ap (λ (a : Answer). a.status) same
    ∙ over in absurd (cc)

reason_stops : (before : List Arrival) (a : Arrival) (answer : Answer) → IsStop a → reason_at before a ≡ Some answer → answer.status ≡ Done → ⊥
reason_stops before (arrived r) answer stop is over = limit_stops (limit_passed (merged (records_in before ++ r ∷ []))) answer is over
reason_stops before ended answer stop is over = absurd (cc)
reason_stops before (stopped other) answer stop is over = let same : other ≡ answer = cc in stop (ap (λ (a : Answer). a.status) same ∙ over)

reading_stops : (arrivals : List Arrival) (answer : Answer) → AreStops arrivals → IsReading arrivals (Err answer) → answer.status ≡ Done → ⊥
reading_stops arrivals answer all (stops_at before a after x split on reason) over =
    reason_stops before a x (stop_within before a after (subst AreStops split all)) reason over

-- what comes is no reason to stop of its own
abbrev Goes : Arrival → Type 0
Goes (arrived r) = Unit {0}
Goes ended = Unit {0}
Goes (stopped answer) = ⊥

abbrev AllGo : List Arrival → Type 0
AllGo [] = Unit {0}
AllGo (a ∷ rest) = Goes a × AllGo rest

go_append : (xs ys : List Arrival) → AllGo xs → AllGo ys → AllGo (xs ++ ys)
go_append [] ys one two = two
go_append (x ∷ xs) ys one two = (one.0, go_append xs ys one.1 two)

go_front : (xs ys : List Arrival) → AllGo (xs ++ ys) → AllGo xs
go_front [] ys all = tt
go_front (x ∷ xs) ys all = (all.0, go_front xs ys all.1)

go_back : (xs ys : List Arrival) → AllGo (xs ++ ys) → AllGo ys
go_back [] ys all = all
go_back (x ∷ xs) ys all = go_back xs ys all.1

go_within : (before : List Arrival) (a : Arrival) (after : List Arrival) → AllGo (before ++ a ∷ after) → Goes a
go_within [] a after all = all.0
go_within (b ∷ before) a after all = go_within before a after all.1

one_goes : (before : List Arrival) (a : Arrival) → reason_at before a ≡ None → Goes a
one_goes before (arrived r) none = tt
one_goes before ended none = tt
one_goes before (stopped answer) none = absurd (cc)

-- of what is read on nothing is a reason to stop
read_goes : (before rest : List Arrival) → IsReadOn (before ++ rest) → AllGo rest
read_goes before [] on = tt
read_goes before (a ∷ rest) on = (
  one_goes before a (on before a rest refl),
  read_goes (before ++ a ∷ []) rest (subst IsReadOn (sym (append_assoc before (a ∷ []) rest)) on),
)

no_limit : (o : Option LimitName) → option_map over_limit o ≡ None → o ≡ None
no_limit None none = refl
no_limit (Some name) none = absurd (cc)

-- what is read on passes no limit
one_within : (before : List Arrival) (a : Arrival) → reason_at before a ≡ None → limit_passed (merged (records_in before)) ≡ None
    → limit_passed (merged (records_in (before ++ a ∷ []))) ≡ None
one_within before (arrived r) none within =
    ap (λ (rs : List Record). limit_passed (merged rs)) (records_append before (arrived r ∷ []))
    ∙ no_limit (limit_passed (merged (records_in before ++ r ∷ []))) none
one_within before ended none within =
    ap (λ (rs : List Record). limit_passed (merged rs)) (records_append before (ended ∷ []) ∙ append-nil (records_in before)) ∙ within
one_within before (stopped answer) none within = absurd (cc)

read_within : (before rest : List Arrival) → IsReadOn (before ++ rest) → limit_passed (merged (records_in before)) ≡ None
    → limit_passed (merged (records_in (before ++ rest))) ≡ None
read_within before [] on within = ap (λ (xs : List Arrival). limit_passed (merged (records_in xs))) (append-nil before) ∙ within
read_within before (a ∷ rest) on within =
    let split : before ++ a ∷ rest ≡ (before ++ a ∷ []) ++ rest = sym (append_assoc before (a ∷ []) rest) in
    ap (λ (xs : List Arrival). limit_passed (merged (records_in xs))) split
    ∙ read_within (before ++ a ∷ []) rest (subst IsReadOn split on) (one_within before a (on before a rest refl) within)

-- what goes on and passes no limit is read on
no_reason : (before : List Arrival) (a : Arrival) → Goes a → ((r : Record) → a ≡ arrived r → limit_passed (merged (records_in before ++ r ∷ [])) ≡ None)
    → reason_at before a ≡ None
no_reason before (arrived r) goes within = ap (λ (o : Option LimitName). option_map over_limit o) (within r refl)
no_reason before ended goes within = refl
no_reason before (stopped answer) goes within = absurd goes

reads_on : LimitsStay → (arrivals : List Arrival) → AllGo arrivals → limit_passed (merged (records_in arrivals)) ≡ None → IsReadOn arrivals
reads_on stay arrivals all within before a after split =
    no_reason before a (go_within before a after (subst AllGo split all))
    (λ r is.
    let records : records_in arrivals ≡ (records_in before ++ r ∷ []) ++ records_in after =
    ap records_in (split ∙ ap (λ (b : Arrival). before ++ b ∷ after) is)
    ∙ records_append before (arrived r ∷ after) ∙ sym (append_assoc (records_in before) (r ∷ []) (records_in after)) in
    stay (records_in before ++ r ∷ []) (records_in after) (ap (λ (rs : List Record). limit_passed (merged rs)) (sym records) ∙ within))

-- nothing that comes from a file is a reason to stop
abbrev FileGoes : Names → List ℕ → Type 0
FileGoes held name = AllGo (file_arrivals keeps_all name (held name))

each_goes : (held : Names) (names : List (List ℕ)) → AllGo (all_arrivals held keeps_all names) → All (FileGoes held) names
each_goes held [] all = All-nil (FileGoes held)
each_goes held (name ∷ names) all =
    All-cons (FileGoes held) name names (go_front (file_arrivals keeps_all name (held name)) (all_arrivals held keeps_all names) all)
    (each_goes held names (go_back (file_arrivals keeps_all name (held name)) (all_arrivals held keeps_all names) all))

all_go : (held : Names) (names : List (List ℕ)) → All (FileGoes held) names → AllGo (all_arrivals held keeps_all names)
all_go held [] each = tt
all_go held (name ∷ names) each =
    go_append (file_arrivals keeps_all name (held name)) (all_arrivals held keeps_all names) (All-head (FileGoes held) name names each)
    (all_go held names (All-tail (FileGoes held) name names each))

any_order_go : (held : Names) (xs ys : List (List ℕ)) → IsPermutation xs ys → AllGo (all_arrivals held keeps_all xs) → AllGo (all_arrivals held keeps_all ys)
any_order_go held xs ys moved all = all_go held ys (All-permutation (FileGoes held) xs ys moved (each_goes held xs all))

-- the merge of files in another order
other_order : FilesInAnyOrder → LimitsInAnyOrder → LimitsStay → (held : Names) (out : List ℕ) (xs ys : List (List ℕ)) → IsPermutation xs ys
    → length xs ≤ most Files → IsReadOn (all_arrivals held keeps_all xs)
    → IsMergeAnswer held (merge_to out ys) (stored_at out (records_in (all_arrivals held keeps_all xs)))
other_order files limits stay held out xs ys moved few on =
    let few_too : length ys ≤ most Files = omega (arith, length_permutation xs ys moved) in
    let parts = IsPermutation-map (file_records held) xs ys moved in
    let same : count_map (merged (records_in (all_arrivals held keeps_all ys))) ≡ count_map (merged (records_in (all_arrivals held keeps_all xs))) =
    ap (λ (rs : List Record). count_map (merged rs)) (records_of_all held ys)
    ∙ sym (files (map (file_records held) xs) (map (file_records held) ys) parts)
    ∙ ap (λ (rs : List Record). count_map (merged rs)) (sym (records_of_all held xs)) in
    let within : limit_passed (merged (records_in (all_arrivals held keeps_all ys))) ≡ None =
    ap (λ (rs : List Record). limit_passed (merged rs)) (records_of_all held ys)
    ∙ sym (limits (map (file_records held) xs) (map (file_records held) ys) parts)
    ∙ ap (λ (rs : List Record). limit_passed (merged rs)) (sym (records_of_all held xs))
    ∙ read_within [] (all_arrivals held keeps_all xs) on refl in
    let on_too = reads_on stay (all_arrivals held keeps_all ys) (any_order_go held xs ys moved (read_goes [] (all_arrivals held keeps_all xs) on)) within in
    subst (λ (m : CountMap). IsMergeAnswer held (merge_to out ys) (done [] ((out, data_text m) ∷ []))) same
    (all_merged (records_in (all_arrivals held keeps_all ys)) few_too (all_read on_too))

-- a reading of all records
of_all : FilesInAnyOrder → LimitsInAnyOrder → LimitsStay → (held : Names) (out : List ℕ) (xs ys : List (List ℕ)) (records : List Record) → IsPermutation xs ys
    → length xs ≤ most Files → IsReading (all_arrivals held keeps_all xs) (Ok records) → IsMergeAnswer held (merge_to out ys) (stored_at out records)
of_all files limits stay held out xs ys records moved few (all_read on) = other_order files limits stay held out xs ys moved few on

pub any_order : FilesInAnyOrder → LimitsInAnyOrder → LimitsStay → MergesInAnyOrder
any_order files limits stay held out xs ys a moved (too_many many) over = absurd (cc)
any_order files limits stay held out xs ys a moved (unread answer few is) over =
    absurd (reading_stops (all_arrivals held keeps_all xs) answer (all_stop held xs) is over)
any_order files limits stay held out xs ys a moved (all_merged records few is) over = of_all files limits stay held out xs ys records moved few is
