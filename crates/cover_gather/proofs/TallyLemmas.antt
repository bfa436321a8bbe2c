-- What is kept of arrivals stands for what came.
use Rattle.std.proofs.Common.{◌≡◌, ℕ, Bool, true, false, cond, List, [], ◌∷◌, ◌++◌, map, refl, sym, ◌∙◌, ap, subst, Option, None, Some, Result, Ok, Err}
use Rattle.std.proofs.Common.{append_assoc}
use Rattle.std.specs.Prelude.{nat_le, option_map}
use Rattle.std.specs.List.{AllByRecursion, IsDistinct}
use Rattle.std.specs.Str.{bytes_eq}
use Rattle.cov_types.specs.declared.limit.LimitName.{LimitName}
use Rattle.cov_dat.specs.Laws.{AddsOneByOne}
use Rattle.cov_dat.specs.Merging.{Counts, added, keys_of, limit_passed, merged, number_of}
use Rattle.cov_dat.specs.declared.record_list.Record.{Record}
use Rattle.cov_dat.proofs.FirstKeyLemmas.{with_key}
use Rattle.test_rank.specs.Ranking.{Covers}
use Rattle.test_rank.specs.Ranking as ranking
use Rattle.command_ending.specs.Answer.{Answer, over_limit}
use Rattle.command_cover.specs.CoverReading.{Arrival, arrived, ended, stopped, records_in}
use Rattle.command_cover.proofs.ReadingLemmas.{records_append}
use Rattle.cover_answer.specs.Gathering.{covered_points, covers_in, stops_for, tests_in}
use Rattle.cover_answer.proofs.GatherLemmas.{first_stop, or_later}
use Rattle.cover_gather.specs.Points.{ascending}
use Rattle.cover_gather.specs.Steps.{TallyState, closed, continued, limit_at_end, no_tally, or_limit, tallied, with_test}
use Rattle.cover_gather.proofs.KeyLemmas.{AllKnown, Keys, all_grown, all_more, keys_added, known_new, merged_distinct, number, number_new, numbers}
use Rattle.cover_gather.proofs.KeyLemmas.{numbers_grown, numbers_more}
use Rattle.cover_gather.proofs.CoverLemmas.{IsPlain, open_behind, open_end, open_record, plain_end, plain_record, points_in_order, tests_end, tests_grown}
use Rattle.cover_gather.proofs.CoverLemmas.{tests_known, tests_record}

-- What is kept of a ranking: the points of the tests, and the numbers of the open file's records.
pub record Ranked (done : List Arrival) (t : TallyState) : Type 0 where
  pub plain : IsPlain done
  pub covers_is : t.covers ≡ map (covered_points t.counts) (tests_in done)
  pub points_is : t.points ≡ numbers (keys_of t.counts) (open_behind [] done)
  pub known : AllKnown (keys_of t.counts) (open_behind [] done)
  pub tests_known_is : AllByRecursion (AllKnown (keys_of t.counts)) (tests_in done)

-- What is kept stands for these arrivals.
pub record Holds (ranks : Bool) (done : List Arrival) (t : TallyState) : Type 0 where
  pub counts_is : t.counts ≡ merged (records_in done)
  pub ranked : ranks ≡ true → Ranked done t

pub holds_none : (ranks : Bool) → Holds ranks [] no_tally
holds_none ranks = record { counts_is = refl; ranked = λ on. record { plain = tt; covers_is = refl; points_is = refl; known = tt; tests_known_is = tt } }

none_more : (rs : List Record) → rs ++ [] ≡ rs
none_more [] = refl
none_more (r ∷ rs) = ap (λ (qs : List Record). r ∷ qs) (none_more rs)

records_ended : (done : List Arrival) → records_in (done ++ ended ∷ []) ≡ records_in done
records_ended done = records_append done (ended ∷ []) ∙ none_more (records_in done)

-- ---- one record more

counts_record : AddsOneByOne → (done : List Arrival) (r : Record) → merged (records_in (done ++ arrived r ∷ [])) ≡ added (merged
    (records_in done)) r.key r.count
counts_record law done r = ap merged (records_append done (arrived r ∷ [])) ∙ law (records_in done) r

distinct_at : (rs : List Record) (counts : Counts) → counts ≡ merged rs → IsDistinct bytes_eq (keys_of counts)
distinct_at rs counts is = subst (λ (c : Counts). IsDistinct bytes_eq (keys_of c)) (sym is) (merged_distinct rs)

choose_same : (t : Bool) (x y z : List ℕ) → y ≡ z → cond t x y ≡ cond t x z
choose_same t x y z same = ap (λ (l : List ℕ). cond t x l) same

-- the numbers of the open file's records with one more
points_record : (counts : Counts) (points : List ℕ) (rs : List Record) (r : Record) → AllKnown (keys_of counts) rs → points ≡ numbers (keys_of counts) rs
    → cond (nat_le 1 r.count) (points ++ number_of counts r.key ∷ []) points ≡ numbers (keys_of (added counts r.key r.count)) (rs ++ r ∷ [])
points_record counts points rs r known is =
    let ks = keys_of counts in
    ap (λ (ns : List ℕ). cond (nat_le 1 r.count) (ns ++ number ks r.key ∷ []) ns) (is ∙ sym (numbers_grown ks r.key rs known))
    ∙ ap (λ (n : ℕ). cond (nat_le 1 r.count) (numbers (with_key ks r.key) rs ++ n ∷ []) (numbers (with_key ks r.key) rs)) (sym (number_new ks r.key))
    ∙ sym (numbers_more (with_key ks r.key) rs r)
    ∙ ap (λ (l : Keys). numbers l (rs ++ r ∷ [])) (sym (keys_added counts r.key r.count))

ranked_record : (done : List Arrival) (t : TallyState) (r : Record) → IsDistinct bytes_eq (keys_of t.counts)
    → IsDistinct bytes_eq (keys_of (added t.counts r.key r.count)) → Ranked done t → Ranked (done ++ arrived r ∷ []) (tallied true t r)
ranked_record done t r distinct more_distinct is =
    let last = open_behind [] done in
    let grown : keys_of (added t.counts r.key r.count) ≡ with_key (keys_of t.counts) r.key = keys_added t.counts r.key r.count in
    let known : AllKnown (with_key (keys_of t.counts) r.key) (last ++ r ∷ []) =
    all_more (with_key (keys_of t.counts) r.key) last r (all_grown (keys_of t.counts) r.key last is.known) (known_new (keys_of t.counts) r.key) in
    record {
      plain = plain_record done r is.plain;
      covers_is = is.covers_is ∙ sym (tests_grown t.counts r.key r.count (tests_in done) distinct more_distinct is.tests_known_is)
          ∙ ap (map (covered_points (added t.counts r.key r.count))) (sym (tests_record [] done r));
      points_is = points_record t.counts t.points last r is.known is.points_is
          ∙ ap (numbers (keys_of (added t.counts r.key r.count))) (sym (open_record [] done r is.plain));
      known = rw (open_record [] done r is.plain, grown) known;
      tests_known_is = rw (tests_record [] done r, grown) (tests_known (keys_of t.counts) r.key (tests_in done) is.tests_known_is);
    }

holds_record : AddsOneByOne → (ranks : Bool) (done : List Arrival) (t : TallyState) (r : Record) → Holds ranks done t
    → Holds ranks (done ++ arrived r ∷ []) (tallied ranks t r)
holds_record law ranks done t r is =
    let counts : added t.counts r.key r.count ≡ merged (records_in (done ++ arrived r ∷ [])) =
    ap (λ (c : Counts). added c r.key r.count) is.counts_is ∙ sym (counts_record law done r) in
    record {
      counts_is = counts;
      ranked = λ on. subst (λ (b : Bool). Ranked (done ++ arrived r ∷ []) (tallied b t r)) (sym on)
          (ranked_record done t r (distinct_at (records_in done) t.counts is.counts_is)
          (distinct_at (records_in (done ++ arrived r ∷ [])) (added t.counts r.key r.count) counts) (is.ranked on));
    }

-- ---- the end of a file

map_last : (f : List Record → List ℕ) (tests : List (List Record)) (rs : List Record) → map f (tests ++ rs ∷ []) ≡ map f tests ++ f rs ∷ []
map_last f [] rs = refl
map_last f (test ∷ tests) rs = ap (λ (l : Covers). f test ∷ l) (map_last f tests rs)

all_last : (P : List Record → Type 0) (tests : List (List Record)) (rs : List Record) → AllByRecursion P tests → P rs → AllByRecursion P (tests ++ rs ∷ [])
all_last P [] rs all last = (last, tt)
all_last P (test ∷ tests) rs all last = (all.0, all_last P tests rs all.1 last)

-- the points of the tests with those of the file that ends
covers_end : (done : List Arrival) (t : TallyState) → IsDistinct bytes_eq (keys_of t.counts) → Ranked done t
    → with_test t ≡ map (covered_points t.counts) (tests_in (done ++ ended ∷ []))
covers_end done t distinct is =
    let last = open_behind [] done in
    let points : ascending t.points ≡ covered_points t.counts last =
    ap ascending is.points_is ∙ sym (points_in_order t.counts last distinct is.known) in
    ap (λ (l : Covers). l ++ ascending t.points ∷ []) is.covers_is
    ∙ ap (λ (ps : List ℕ). map (covered_points t.counts) (tests_in done) ++ ps ∷ []) points
    ∙ sym (map_last (covered_points t.counts) (tests_in done) last)
    ∙ ap (map (covered_points t.counts)) (sym (tests_end [] done is.plain))

ranked_end : (done : List Arrival) (t : TallyState) → IsDistinct bytes_eq (keys_of t.counts) → Ranked done t → Ranked (done ++ ended ∷ []) (closed true t)
ranked_end done t distinct is = record {
  plain = plain_end done is.plain;
  covers_is = covers_end done t distinct is;
  points_is = rw (open_end [] done is.plain) refl;
  known = rw (open_end [] done is.plain) tt;
  tests_known_is = rw (tests_end [] done is.plain) (all_last (AllKnown (keys_of t.counts)) (tests_in done) (open_behind [] done) is.tests_known_is is.known);
}

counts_closed : (ranks : Bool) (t : TallyState) → (closed ranks t).counts ≡ t.counts
counts_closed true t = refl
counts_closed false t = refl

holds_end : (ranks : Bool) (done : List Arrival) (t : TallyState) → Holds ranks done t → Holds ranks (done ++ ended ∷ []) (closed ranks t)
holds_end ranks done t is = record {
  counts_is = counts_closed ranks t ∙ is.counts_is ∙ ap merged (sym (records_ended done));
  ranked = λ on. subst (λ (b : Bool). Ranked (done ++ ended ∷ []) (closed b t)) (sym on)
      (ranked_end done t (distinct_at (records_in done) t.counts is.counts_is) (is.ranked on));
}

-- what stops reading at the end of a file
reason_end : (ranks : Bool) (done : List Arrival) (t : TallyState) → Holds ranks done t
    → stops_for ranks done ended ≡ option_map over_limit (limit_at_end ranks t)
reason_end false done t is = refl
reason_end true done t is =
    let same : covers_in (done ++ ended ∷ []) ≡ with_test t =
    ap (λ (rs : List Record). map (covered_points (merged rs)) (tests_in (done ++ ended ∷ []))) (records_ended done)
    ∙ ap (λ (c : Counts). map (covered_points c) (tests_in (done ++ ended ∷ []))) (sym is.counts_is)
    ∙ sym (covers_end done t (distinct_at (records_in done) t.counts is.counts_is) (is.ranked refl)) in
    ap (λ (c : Covers). option_map over_limit (ranking.limit_passed c)) same

reason_record : AddsOneByOne → (ranks : Bool) (done : List Arrival) (t : TallyState) (r : Record) → Holds ranks done t
    → stops_for ranks done (arrived r) ≡ option_map over_limit (limit_passed (added t.counts r.key r.count))
reason_record law ranks done t r is =
    ap (λ (c : Counts). option_map over_limit (limit_passed c)) (law (records_in done) r ∙ ap (λ (c : Counts). added c r.key r.count) (sym is.counts_is))

-- ---- all of it

-- what is left to come goes on as reading does: to all that came, or to the first reason to stop
abbrev pub Tallies : Bool → List Arrival → List Arrival → Result TallyState Answer → Type 0
Tallies ranks done rest (Ok t) = (first_stop ranks done rest ≡ None) × Holds ranks (done ++ rest) t
Tallies ranks done rest (Err answer) = first_stop ranks done rest ≡ Some answer

append_none : (xs : List Arrival) → xs ++ [] ≡ xs
append_none [] = refl
append_none (x ∷ xs) = ap (λ (ys : List Arrival). x ∷ ys) (append_none xs)

abbrev goes_on : Answer → Option Answer
goes_on answer = Some answer

-- one arrival, which is no reason to stop but where a limit is passed
one_step : (ranks : Bool) (done : List Arrival) (a : Arrival) (rest : List Arrival) (limit : Option LimitName) (r : Result TallyState Answer)
    → stops_for ranks done a ≡ option_map over_limit limit → Tallies ranks (done ++ a ∷ []) rest r → Tallies ranks done (a ∷ rest) (or_limit limit r)
one_step ranks done a rest (Some name) r reason is = ap (λ (o : Option Answer). or_later o (first_stop ranks (done ++ a ∷ []) rest)) reason
one_step ranks done a rest None (Err answer) reason is = ap (λ (o : Option Answer). or_later o (first_stop ranks (done ++ a ∷ []) rest)) reason ∙ is
one_step ranks done a rest None (Ok t) reason is = (
  ap (λ (o : Option Answer). or_later o (first_stop ranks (done ++ a ∷ []) rest)) reason ∙ is.0,
  subst (λ (l : List Arrival). Holds ranks l t) (append_assoc done (a ∷ []) rest) is.1,
)

pub tallies : AddsOneByOne → (ranks : Bool) (done rest : List Arrival) (t : TallyState) → Holds ranks done t → Tallies ranks done rest (continued ranks t rest)
tallies law ranks done [] t is = (refl, subst (λ (l : List Arrival). Holds ranks l t) (sym (append_none done)) is)
tallies law ranks done (stopped answer ∷ rest) t is = refl
tallies law ranks done (ended ∷ rest) t is =
    one_step ranks done ended rest (limit_at_end ranks t) (continued ranks (closed ranks t) rest) (reason_end ranks done t is)
    (tallies law ranks (done ++ ended ∷ []) rest (closed ranks t) (holds_end ranks done t is))
tallies law ranks done (arrived r ∷ rest) t is =
    one_step ranks done (arrived r) rest (limit_passed (added t.counts r.key r.count)) (continued ranks (tallied ranks t r) rest)
    (reason_record law ranks done t r is)
    (tallies law ranks (done ++ arrived r ∷ []) rest (tallied ranks t r) (holds_record law ranks done t r is))
