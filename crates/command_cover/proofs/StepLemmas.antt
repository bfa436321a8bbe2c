-- The merge by counts, step by step.
use Rattle.std.proofs.Common.{◌≡◌, ℕ, Bool, true, false, cond, List, [], ◌∷◌, ◌++◌, refl, sym, ◌∙◌, ap, subst, Option, None, Some, Result, Ok, Err}
use Rattle.std.specs.Prelude.{IfSome, Contains}
use Rattle.cov_port.specs.Files.{Names, FileFaults}
use Rattle.cov_types.specs.declared.limit.LimitName.{LimitName}
use Rattle.cov_types.specs.declared.limit.LimitName.TheVariants.{DataPoints, TotalKeyBytes}
use Rattle.cov_dat.specs.Merging.{Counts, added, limit_passed}
use Rattle.cov_dat.specs.declared.record_list.Record.{Record}
use Rattle.cov_dat.specs.declared.merge_fault.MergeFault.{MergeFault}
use Rattle.cov_dat.specs.declared.merge_fault.MergeFault.TheVariants as merge_fault
use Rattle.command_ending.specs.Answer.{Answer, over_limit}
use Rattle.command_ending.specs.Stops.{IsRefusal, Stops, taking}
use Rattle.command_ending.specs.declared.ending.Ending.{Ending}
use Rattle.command_ending.proofs.PutLemmas.{always_told, if_told, if_told_both}
use Rattle.command_ending.proofs.StopLemmas.{refusal_weaker, stops_weaker}
use Rattle.command_cover.specs.CoverReading.{Arrival, arrived, ended, stopped, file_arrivals, all_arrivals}
use Rattle.command_cover.specs.Merge.{keeps_all}
use Rattle.command_cover.specs.MergePromise.{IsDataLimit, data_points, total_key_bytes}
use Rattle.command_cover.specs.Steps.{continued, with_limit, file_promise, files_promise}

-- a record within the limits goes on
pub continued-within : (counts : Counts) (r : Record) (rest : List Arrival) → limit_passed (added counts r.key r.count) ≡ None
    → continued counts (arrived r ∷ rest) ≡ continued (added counts r.key r.count) rest
continued-within counts r rest within = rw within refl

-- a record that passes a limit is refused
pub continued-past : (counts : Counts) (r : Record) (rest : List Arrival) (name : LimitName) → limit_passed (added counts r.key r.count) ≡ Some name
    → continued counts (arrived r ∷ rest) ≡ Err (over_limit name)
continued-past counts r rest name past = rw past refl

-- the limits on merged counts
pub merge_limit : (counts : Counts) (name : LimitName) → limit_passed counts ≡ Some name → IsDataLimit name
merge_limit counts name is = which _ _ is where
  which : (b c : Bool) → cond b (Some DataPoints) (cond c (Some TotalKeyBytes) None) ≡ Some name → IsDataLimit name
  which true c is = let same : DataPoints ≡ name = cc in subst IsDataLimit same data_points
  which false true is = let same : TotalKeyBytes ≡ name = cc in subst IsDataLimit same total_key_bytes
  which false false is = absurd (cc)

with_limit-ok : (o : Option LimitName) (r : Result Counts Answer) (more : Counts) → with_limit o r ≡ Ok more → r ≡ Ok more
with_limit-ok None r more is = is
with_limit-ok (Some name) r more is = absurd (cc)

-- behind further arrivals
pub continued-append-ok : (counts more : Counts) (first rest : List Arrival) → continued counts first ≡ Ok more
    → continued counts (first ++ rest) ≡ continued more rest
continued-append-ok counts more [] rest is = let same : counts ≡ more = cc in ap (λ (c : Counts). continued c rest) same
continued-append-ok counts more (stopped answer ∷ first) rest is = absurd (cc)
continued-append-ok counts more (ended ∷ first) rest is = continued-append-ok counts more first rest is
continued-append-ok counts more (arrived r ∷ first) rest is =
    elim (limit_passed (added counts r.key r.count)) as (λ o. with_limit o (continued (added counts r.key r.count) first) ≡ Ok more
    → with_limit o (continued (added counts r.key r.count) (first ++ rest)) ≡ continued more rest) [
      | None ↦ λ e. continued-append-ok (added counts r.key r.count) more first rest e
      | Some name ↦ λ e. absurd (cc)
    ] is

pub continued-append-err : (counts : Counts) (first rest : List Arrival) (answer : Answer) → continued counts first ≡ Err answer
    → continued counts (first ++ rest) ≡ Err answer
continued-append-err counts [] rest answer is = absurd (cc)
continued-append-err counts (stopped s ∷ first) rest answer is = is
continued-append-err counts (ended ∷ first) rest answer is = continued-append-err counts first rest answer is
continued-append-err counts (arrived r ∷ first) rest answer is =
    elim (limit_passed (added counts r.key r.count)) as (λ o. with_limit o (continued (added counts r.key r.count) first) ≡ Err answer
    → with_limit o (continued (added counts r.key r.count) (first ++ rest)) ≡ Err answer) [
      | None ↦ λ e. continued-append-err (added counts r.key r.count) first rest answer e
      | Some name ↦ λ e. e
    ] is

-- a file that can't be taken
pub untaken_stops : (held : Option Names) (name : List ℕ) (counts : Counts) (before now : FileFaults) (e : Ending) → Stops (taking name) held before now e
    → Stops (file_promise counts name) held before now e
untaken_stops held name counts before now e is =
    stops_weaker (taking name) (file_promise counts name) held before now e (λ other same. same) (λ status line never. absurd never)
    (always_told held _ (λ h answer one. ap (λ (o : Option (List ℕ)). continued counts (file_arrivals keeps_all name o)) one.0 ∙ ap Err (sym one.1))) is

-- files of which the first is added go on with the others
pub added_first : (told : Option Names) (counts more first : Counts) (name : List ℕ) (names all : List (List ℕ))
    → IfSome told (λ held. continued counts (file_arrivals keeps_all name (held name)) ≡ Ok more)
    → IfSome told (λ held. continued counts (all_arrivals held keeps_all (name ∷ names)) ≡ continued first (all_arrivals held keeps_all all))
    → IfSome told (λ held. continued more (all_arrivals held keeps_all names) ≡ continued first (all_arrivals held keeps_all all))
added_first told counts more first name names all one before =
    if_told_both told _ _ _ (λ held is so. sym
    (continued-append-ok counts more (file_arrivals keeps_all name (held name)) (all_arrivals held keeps_all names) is) ∙ so) one before

-- files of which the first is refused are refused
pub refused_first : (told : Option Names) (counts first : Counts) (name : List ℕ) (names all : List (List ℕ)) (before now : FileFaults) (e : Ending)
    → Contains all name
    → IfSome told (λ held. continued counts (all_arrivals held keeps_all (name ∷ names)) ≡ continued first (all_arrivals held keeps_all all))
    → Stops (file_promise counts name) told before now e → Stops (files_promise first all) told before now e
refused_first told counts first name names all before now e there so is =
    stops_weaker (file_promise counts name) (files_promise first all) told before now e (λ other same. subst (Contains all) (sym same) there)
    (λ status line one. (name, there, one))
    (if_told told _ _ (λ held same answer one. sym same
    ∙ continued-append-err counts (file_arrivals keeps_all name (held name)) (all_arrivals held keeps_all names) answer one) so) is

-- the limit on merged keys of a fault
pub limit_refusal : (fault : MergeFault) (limit : LimitName) (e : Ending) → fault ≡ merge_fault.Limit limit → IsRefusal (λ answer. answer ≡ over_limit limit) e
    → IsRefusal (λ answer. (found : LimitName) × (fault ≡ merge_fault.Limit found) × (answer ≡ over_limit found)) e
limit_refusal fault limit e same is = refusal_weaker _ _ e (λ a one. (limit, same, one)) is
