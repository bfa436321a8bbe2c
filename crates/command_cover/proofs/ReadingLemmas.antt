-- What reading data files comes to.
use Rattle.std.proofs.Common.{◌≡◌, ℕ, ◌+◌, suc, List, [], ◌∷◌, ◌++◌, length, refl, sym, ◌∙◌, ap, subst, Option, None, Some, Result, Ok, Err, arith}
use Rattle.std.proofs.Common.{append_assoc, length-append}
use Rattle.std.specs.Prelude.{option_map}
use Rattle.cov_dat.specs.Laws.{AddsOneByOne}
use Rattle.cov_dat.specs.Merging.{Counts, added, limit_passed, merged}
use Rattle.cov_dat.specs.declared.record_list.Record.{Record}
use Rattle.command_ending.specs.Answer.{Answer, over_limit}
use Rattle.command_ending.proofs.CutLemmas.{at_one, sooner, later, cuts}
use Rattle.command_cover.specs.CoverReading.{Arrival, arrived, ended, stopped, records_in, reason_at, IsReadOn, IsReading, all_read, stops_at}
use Rattle.command_cover.specs.Steps.{continued, with_limit}

none_some : (o : Option Answer) (a : Answer) → o ≡ None → o ≡ Some a → ⊥
none_some o a none some = absurd (cc)

some_same : (o : Option Answer) (a b : Answer) → o ≡ Some a → o ≡ Some b → a ≡ b
some_same o a b one two = cc

-- arrivals that are read on have no first reason to stop
read_stops : (arrivals before : List Arrival) (a : Arrival) (after : List Arrival) (answer : Answer) → IsReadOn arrivals → arrivals ≡ before ++ a ∷ after
    → reason_at before a ≡ Some answer → ⊥
read_stops arrivals before a after answer on split reason = none_some (reason_at before a) answer (on before a after split) reason

abbrev pub Outcome : Type 0
Outcome = Result (List Record) Answer

-- there is one first reason to stop
stops_once : (arrivals before : List Arrival) (a : Arrival) (after : List Arrival) (x : Answer) (others : List Arrival) (b : Arrival) (rest : List Arrival)
    (y : Answer)
    → arrivals ≡ before ++ a ∷ after → IsReadOn before → reason_at before a ≡ Some x → arrivals ≡ others ++ b ∷ rest → IsReadOn others
    → reason_at others b ≡ Some y → x ≡ y
stops_once arrivals before a after x others b rest y split on reason split_too on_too reason_too =
    elim (cuts before a after others b rest (sym split ∙ split_too)) [
      | at_one is one ↦ some_same (reason_at others b) x y
          (subst (λ (c : Arrival). reason_at others c ≡ Some x) one (subst (λ (l : List Arrival). reason_at l a ≡ Some x) is reason)) reason_too
      | sooner more is ↦ absurd (read_stops others before a more x on_too is reason)
      | later more is ↦ absurd (read_stops before others b more y on is reason_too)
    ]

-- reading comes to one thing
pub reads_once : (arrivals : List Arrival) (r s : Outcome) → IsReading arrivals r → IsReading arrivals s → r ≡ s
reads_once arrivals r s (all_read on) (all_read again) = refl
reads_once arrivals r s (all_read on) (stops_at before a after x split was reason) = absurd (read_stops arrivals before a after x on split reason)
reads_once arrivals r s (stops_at before a after x split was reason) (all_read on) = absurd (read_stops arrivals before a after x on split reason)
reads_once arrivals r s (stops_at before a after x split was reason) (stops_at others b rest y split_too was_too reason_too) =
    ap {B = Outcome} Err (stops_once arrivals before a after x others b rest y split was reason split_too was_too reason_too)

-- the records of one list of arrivals behind another
pub records_append : (xs ys : List Arrival) → records_in (xs ++ ys) ≡ records_in xs ++ records_in ys
records_append [] ys = refl
records_append (arrived r ∷ xs) ys = ap (λ (rs : List Record). r ∷ rs) (records_append xs ys)
records_append (ended ∷ xs) ys = records_append xs ys
records_append (stopped a ∷ xs) ys = records_append xs ys

-- one more arrival that is no reason to stop
read_more : (done : List Arrival) (a : Arrival) → IsReadOn done → reason_at done a ≡ None → IsReadOn (done ++ a ∷ [])
read_more done a on none before b after split = elim (cuts done a [] before b after split) [
  | at_one is one ↦ subst (λ (c : Arrival). reason_at before c ≡ None) one (subst (λ (l : List Arrival). reason_at l a ≡ None) is none)
  | sooner more is ↦ let size = ap length (split ∙ ap (λ (l : List Arrival). l ++ b ∷ after) is) in
      absurd (too_long (length done) (length more) (length after) (simp length-append at size))
  | later more is ↦ on before b more is
] where
  too_long : (n m k : ℕ) → n + 1 ≡ n + suc m + suc k → ⊥
  too_long n m k is = absurd (omega arith)

nothing_read_on : IsReadOn []
nothing_read_on [] a after split = absurd (cc)
nothing_read_on (b ∷ before) a after split = absurd (cc)

behind : (done : List Arrival) (a : Arrival) (rest : List Arrival) → done ++ a ∷ rest ≡ (done ++ a ∷ []) ++ rest
behind done a rest = sym (append_assoc done (a ∷ []) rest)

append_none : (xs : List Arrival) → xs ++ [] ≡ xs
append_none [] = refl
append_none (x ∷ xs) = ap (λ (ys : List Arrival). x ∷ ys) (append_none xs)

-- what counts go on to, as a reading of all that came
pub record Reads (arrivals : List Arrival) (r : Result Counts Answer) : Type 0 where
  pub ok : (counts : Counts) → r ≡ Ok counts → IsReading arrivals (Ok (records_in arrivals)) × (counts ≡ merged (records_in arrivals))
  pub err : (answer : Answer) → r ≡ Err answer → IsReading arrivals (Err answer)

ok_same : (a b : Counts) (r : Result Counts Answer) → r ≡ Ok a → r ≡ Ok b → a ≡ b
ok_same a b r one two = cc

ok_err : (a : Counts) (b : Answer) (r : Result Counts Answer) → r ≡ Ok a → r ≡ Err b → ⊥
ok_err a b r one two = absurd (cc)

err_same : (a b : Answer) (r : Result Counts Answer) → r ≡ Err a → r ≡ Err b → a ≡ b
err_same a b r one two = cc

stop_reads : (done : List Arrival) (a : Arrival) (rest : List Arrival) (answer : Answer) → IsReadOn done → reason_at done a ≡ Some answer
    → Reads (done ++ a ∷ rest) (Err answer)
stop_reads done a rest answer on reason = record {
  ok = λ counts is. absurd (ok_err counts answer (Err answer) is refl);
  err = λ other is. subst (λ (x : Answer). IsReading (done
      ++ a ∷ rest) (Err x)) (err_same answer other (Err answer) refl is) (stops_at done a rest answer refl on reason);
}

moved : (xs ys : List Arrival) (r : Result Counts Answer) → xs ≡ ys → Reads ys r → Reads xs r
moved xs ys r same is = subst (λ (l : List Arrival). Reads l r) (sym same) is

-- counts go on as reading does
pub continued_reads : AddsOneByOne → (done rest : List Arrival) → IsReadOn done → Reads (done ++ rest) (continued (merged (records_in done)) rest)
continued_reads law done [] on = moved (done ++ []) done _ (append_none done) (record {
  ok = λ counts is. (all_read on, ok_same counts (merged (records_in done)) (Ok counts) refl (sym is));
  err = λ answer is. absurd (ok_err (merged (records_in done)) answer (Ok (merged (records_in done))) refl is);
})
continued_reads law done (stopped answer ∷ rest) on = stop_reads done (stopped answer) rest answer on refl
continued_reads law done (ended ∷ rest) on =
    moved _ _ _ (behind done ended rest)
    (subst (λ (rs : List Record). Reads ((done ++ ended ∷ []) ++ rest) (continued (merged rs) rest)) (records_append done (ended ∷ [])
    ∙ none_more (records_in done))
    (continued_reads law (done ++ ended ∷ []) rest (read_more done ended on refl))) where
      none_more : (rs : List Record) → rs ++ [] ≡ rs
      none_more [] = refl
      none_more (r ∷ rs) = ap (λ (qs : List Record). r ∷ qs) (none_more rs)
continued_reads law done (arrived r ∷ rest) on =
    elim (limit_passed (added (merged (records_in done)) r.key r.count)) as (λ o. limit_passed (added (merged (records_in done)) r.key r.count) ≡ o
    → Reads (done ++ arrived r ∷ rest) (with_limit o (continued (added (merged (records_in done)) r.key r.count) rest))) [
      | None ↦ λ e. moved _ _ _ (behind done (arrived r) rest)
          (subst (λ (c : Counts). Reads ((done ++ arrived r ∷ []) ++ rest) (continued c rest)) (ap merged (records_append done (arrived r ∷ []))
          ∙ law (records_in done) r)
          (continued_reads law (done ++ arrived r ∷ []) rest
          (read_more done (arrived r) on (ap (λ (c : Counts). option_map over_limit (limit_passed c)) (law (records_in done) r)
          ∙ ap (option_map over_limit) e))))
      | Some name ↦ λ e. stop_reads done (arrived r) rest (over_limit name) on
          (ap (λ (c : Counts). option_map over_limit (limit_passed c)) (law (records_in done) r) ∙ ap (option_map over_limit) e)
    ] refl

-- counts from none on, as a reading
pub all_reads : AddsOneByOne → (arrivals : List Arrival) → Reads arrivals (continued [] arrivals)
all_reads law arrivals = continued_reads law [] arrivals nothing_read_on
