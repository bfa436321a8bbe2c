-- What reading data files with a filter and a ranking comes to.
use Rattle.std.proofs.Common.{◌≡◌, ℕ, ◌+◌, suc, Bool, false, List, [], ◌∷◌, ◌++◌, length, refl, sym, ◌∙◌, ap, subst, Option, None, Some, Result, Ok, Err, arith}
use Rattle.std.proofs.Common.{append_assoc, length-append}
use Rattle.cov_dat.specs.declared.record_list.Record.{Record}
use Rattle.command_ending.specs.Answer.{Answer}
use Rattle.command_ending.proofs.CutLemmas.{at_one, sooner, later, cuts}
use Rattle.command_cover.specs.CoverReading.{Arrival, arrived, ended, stopped, records_in, reason_at, IsReadOn, IsReading}
use Rattle.command_cover.specs.CoverReading as cover
use Rattle.cover_answer.specs.Gathering.{stops_for, IsGathered, Gathers, all_gathered, stops_at}

pub none_some : (o : Option Answer) (a : Answer) → o ≡ None → o ≡ Some a → ⊥
none_some o a none some = absurd (cc)

pub some_same : (o : Option Answer) (a b : Answer) → o ≡ Some a → o ≡ Some b → a ≡ b
some_same o a b one two = cc

-- arrivals that are all read have no first reason to stop
read_stops : (ranks : Bool) (arrivals before : List Arrival) (a : Arrival) (after : List Arrival) (answer : Answer) → IsGathered ranks arrivals
    → arrivals ≡ before ++ a ∷ after
    → stops_for ranks before a ≡ Some answer → ⊥
read_stops ranks arrivals before a after answer on split reason = none_some (stops_for ranks before a) answer (on before a after split) reason

-- there is one first reason to stop
stops_once : (ranks : Bool) (arrivals before : List Arrival) (a : Arrival) (after : List Arrival) (x : Answer) (others : List Arrival) (b : Arrival)
    (rest : List Arrival) (y : Answer)
    → arrivals ≡ before ++ a ∷ after → IsGathered ranks before → stops_for ranks before a ≡ Some x
    → arrivals ≡ others ++ b ∷ rest → IsGathered ranks others → stops_for ranks others b ≡ Some y → x ≡ y
stops_once ranks arrivals before a after x others b rest y split on reason split_too on_too reason_too =
    elim (cuts before a after others b rest (sym split ∙ split_too)) [
      | at_one is one ↦ some_same (stops_for ranks others b) x y
          (subst (λ (c : Arrival). stops_for ranks others c ≡ Some x) one (subst (λ (l : List Arrival). stops_for ranks l a ≡ Some x) is reason)) reason_too
      | sooner more is ↦ absurd (read_stops ranks others before a more x on_too is reason)
      | later more is ↦ absurd (read_stops ranks before others b more y on is reason_too)
    ]

-- reading comes to one thing
pub gathers_once : (ranks : Bool) (arrivals : List Arrival) (r s : Option Answer) → Gathers ranks arrivals r → Gathers ranks arrivals s → r ≡ s
gathers_once ranks arrivals r s (all_gathered on) (all_gathered again) = refl
gathers_once ranks arrivals r s (all_gathered on) (stops_at before a after x split was reason) = absurd
    (read_stops ranks arrivals before a after x on split reason)
gathers_once ranks arrivals r s (stops_at before a after x split was reason) (all_gathered on) = absurd
    (read_stops ranks arrivals before a after x on split reason)
gathers_once ranks arrivals r s (stops_at before a after x split was reason) (stops_at others b rest y split_too was_too reason_too) =
    ap {B = Option Answer} Some (stops_once ranks arrivals before a after x others b rest y split was reason split_too was_too reason_too)

-- ---- the first reason to stop, step by step

abbrev pub or_later : Option Answer → Option Answer → Option Answer
or_later None rest = rest
or_later (Some answer) rest = Some answer

abbrev pub first_stop : Bool → List Arrival → List Arrival → Option Answer
first_stop ranks before [] = None
first_stop ranks before (a ∷ rest) = or_later (stops_for ranks before a) (first_stop ranks (before ++ a ∷ []) rest)

read_more : (ranks : Bool) (done : List Arrival) (a : Arrival) → IsGathered ranks done → stops_for ranks done a ≡ None → IsGathered ranks (done ++ a ∷ [])
read_more ranks done a on none before b after split = elim (cuts done a [] before b after split) [
  | at_one is one ↦ subst (λ (c : Arrival). stops_for ranks before c ≡ None) one (subst (λ (l : List Arrival). stops_for ranks l a ≡ None) is none)
  | sooner more is ↦ let size = ap length (split ∙ ap (λ (l : List Arrival). l ++ b ∷ after) is) in
      absurd (too_long (length done) (length more) (length after) (simp length-append at size))
  | later more is ↦ on before b more is
] where
  too_long : (n m k : ℕ) → n + 1 ≡ n + suc m + suc k → ⊥
  too_long n m k is = absurd (omega arith)

none_gathered : (ranks : Bool) → IsGathered ranks []
none_gathered ranks [] a after split = absurd (cc)
none_gathered ranks (b ∷ before) a after split = absurd (cc)

append_none : (xs : List Arrival) → xs ++ [] ≡ xs
append_none [] = refl
append_none (x ∷ xs) = ap (λ (ys : List Arrival). x ∷ ys) (append_none xs)

pub gathers_on : (ranks : Bool) (done rest : List Arrival) → IsGathered ranks done → Gathers ranks (done ++ rest) (first_stop ranks done rest)
gathers_on ranks done [] on = subst (λ (l : List Arrival). Gathers ranks l None) (sym (append_none done)) (all_gathered on)
gathers_on ranks done (a ∷ rest) on =
    elim (stops_for ranks done a) as (λ o. stops_for ranks done a ≡ o
    → Gathers ranks (done ++ a ∷ rest) (or_later o (first_stop ranks (done ++ a ∷ []) rest))) [
      | None ↦ λ e. subst (λ (l : List Arrival). Gathers ranks l (first_stop ranks (done ++ a ∷ []) rest)) (append_assoc done (a ∷ []) rest)
          (gathers_on ranks (done ++ a ∷ []) rest (read_more ranks done a on e))
      | Some answer ↦ λ e. stops_at done a rest answer refl on e
    ] refl

-- reading comes to something
pub gathers : (ranks : Bool) (arrivals : List Arrival) → Gathers ranks arrivals (first_stop ranks [] arrivals)
gathers ranks arrivals = gathers_on ranks [] arrivals (none_gathered ranks)

-- ---- without a ranking it is the reading of a merge

same_reason : (before : List Arrival) (a : Arrival) → stops_for false before a ≡ reason_at before a
same_reason before (arrived r) = refl
same_reason before ended = refl
same_reason before (stopped answer) = refl

read_on : (arrivals : List Arrival) → IsGathered false arrivals → IsReadOn arrivals
read_on arrivals on before a after split = sym (same_reason before a) ∙ on before a after split

gathered_on : (arrivals : List Arrival) → IsReadOn arrivals → IsGathered false arrivals
gathered_on arrivals on before a after split = same_reason before a ∙ on before a after split

abbrev pub read_of : List Arrival → Option Answer → Result (List Record) Answer
read_of arrivals None = Ok (records_in arrivals)
read_of arrivals (Some answer) = Err answer

abbrev pub stop_of : Result (List Record) Answer → Option Answer
stop_of (Ok records) = None
stop_of (Err answer) = Some answer

pub as_reading : (arrivals : List Arrival) (r : Option Answer) → Gathers false arrivals r → IsReading arrivals (read_of arrivals r)
as_reading arrivals r (all_gathered on) = cover.all_read (read_on arrivals on)
as_reading arrivals r (stops_at before a after answer split on reason) = cover.stops_at before a after answer split (read_on before on)
    (sym (same_reason before a) ∙ reason)

pub as_gathering : (arrivals : List Arrival) (r : Result (List Record) Answer) → IsReading arrivals r → Gathers false arrivals (stop_of r)
as_gathering arrivals r (cover.all_read on) = all_gathered (gathered_on arrivals on)
as_gathering arrivals r (cover.stops_at before a after answer split on reason) = stops_at before a after answer split (gathered_on before on)
    (same_reason before a ∙ reason)

ok_same : (a b : List Record) (r : Result (List Record) Answer) → r ≡ Ok a → r ≡ Ok b → a ≡ b
ok_same a b r one two = cc

ok_err : (a : List Record) (b : Answer) (r : Result (List Record) Answer) → r ≡ Ok a → r ≡ Err b → ⊥
ok_err a b r one two = absurd (cc)

-- all that is read
pub read_whole : (arrivals : List Arrival) (records : List Record) (r : Result (List Record) Answer) → IsReading arrivals r → r ≡ Ok records
    → records_in arrivals ≡ records
read_whole arrivals records r (cover.all_read on) is = ok_same (records_in arrivals) records (Ok (records_in arrivals)) refl is
read_whole arrivals records r (cover.stops_at before a after answer split on reason) is = absurd (ok_err records answer (Err answer) is refl)
