-- How much of a refused file is taken.
use Rattle.std.proofs.Common.{◌≡◌, ℕ, List, refl, sym, ◌∙◌, ap, Option, None, Some}
use Rattle.std.specs.Prelude.{IfSome, Contains}
use Rattle.cov_port.specs.Files.{Names, FileFaults}
use Rattle.cov_types.specs.declared.limit.LimitName.{LimitName}
use Rattle.cov_dat.specs.Reading.{reading}
use Rattle.cov_dat.specs.Streaming.{IsFrugal, ReaderState, StandsIn, line_of}
use Rattle.cov_dat.specs.declared.fault.DataFault.{DataFault}
use Rattle.cov_dat.specs.declared.fault.DataFault.TheVariants as fault
use Rattle.cov_dat.specs.declared.merge_fault.MergeFault.{MergeFault}
use Rattle.cov_dat.specs.declared.merge_fault.MergeFault.TheVariants as merge_fault
use Rattle.command_ending.specs.Answer.{Answer, over_limit}
use Rattle.command_ending.specs.Ending.{line_at, status_at}
use Rattle.command_ending.specs.Finish.{IsFinish, all_done, put_failed, store_failed}
use Rattle.command_ending.specs.Opening.{IsOpened}
use Rattle.command_ending.specs.Stops.{IsRefusal, without_memory, refused, Stops, wants_memory, lacks_name, cannot_open, cannot_read, refuses, taking}
use Rattle.command_ending.specs.World.{World}
use Rattle.command_ending.specs.declared.ending.Ending.{Ending}
use Rattle.command_ending.specs.declared.status.Status.{Status}
use Rattle.command_ending.specs.declared.status.Status.TheVariants.{BadData}
use Rattle.command_cover.specs.CoverReading.{refusal_of}
use Rattle.command_cover.specs.Sparing.{IsSparing, TakesFew, TakesFewAt, TakesFewOf}

-- a fault that refuses a line names it
numbered : (name text : List ℕ) (rest : Option (List ℕ)) (flaw : DataFault) → IfSome (line_of flaw) (λ n. IsFrugal text rest n)
    → (refusal_of name flaw).status ≡ BadData
    → (n : ℕ) × (line_of flaw ≡ Some n) × IsFrugal text rest n
numbered name text rest (fault.BadHeader n) few bad = (n, refl, few)
numbered name text rest (fault.BadRecord n) few bad = (n, refl, few)
numbered name text rest (fault.BadCount n) few bad = (n, refl, few)
numbered name text rest (fault.LineTooLong n) few bad = (n, refl, few)
numbered name text rest fault.Failed few bad = absurd (cc)
numbered name text rest (fault.Limit limit) few bad = absurd (cc)

takes_few : (name text : List ℕ) (rest : Option (List ℕ)) (flaw : DataFault) (e : Ending) → (reading text).fault ≡ Some flaw
    → IfSome (line_of flaw) (λ n. IsFrugal text rest n) → IsRefusal (λ answer. answer ≡ refusal_of name flaw) e → status_at e ≡ BadData
    → TakesFew name text (line_at e) rest
takes_few name text rest flaw e found few without_memory bad = absurd (cc)
takes_few name text rest flaw e found few (refused status line refusal is) bad =
    let at = numbered name text rest flaw few (sym (ap (λ (a : Answer). a.status) is) ∙ bad) in
    record { flaw = flaw; number = at.0; refused = found; at = at.1; line = ap (λ (a : Answer). a.line) is; few = at.2 }

-- a line that is refused
pub fault_spares : (name : List ℕ) (left rest_old rest_new : Option (List ℕ)) (reader : ReaderState) (flaw : DataFault) (e : Ending)
    → IfSome left (λ text. (reading text).fault ≡ Some flaw) → IfSome left (λ text. StandsIn text reader rest_old)
    → ((text : List ℕ) → StandsIn text reader rest_old → IfSome (line_of flaw) (λ n. IsFrugal text rest_new n))
    → IsRefusal (λ answer. answer ≡ refusal_of name flaw) e → status_at e ≡ BadData → IfSome left (λ text. TakesFew name text (line_at e) rest_new)
fault_spares name None rest_old rest_new reader flaw e found stands few is bad = tt
fault_spares name (Some text) rest_old rest_new reader flaw e found stands few is bad = takes_few name text rest_new flaw e found (few text stands) is bad

-- a limit refuses no line
pub limit_is_no_line : (flaw : MergeFault) (e : Ending)
    → IsRefusal (λ answer. (limit : LimitName) × (flaw ≡ merge_fault.Limit limit) × (answer ≡ over_limit limit)) e → status_at e ≡ BadData → ⊥
limit_is_no_line flaw e without_memory bad = absurd (cc)
limit_is_no_line flaw e (refused status line refusal is) bad = let same = ap (λ (a : Answer). a.status) is.2 in absurd (cc)

pub one_limit_is_no_line : (limit : LimitName) (e : Ending) → IsRefusal (λ answer. answer ≡ over_limit limit) e → status_at e ≡ BadData → ⊥
one_limit_is_no_line limit e without_memory bad = absurd (cc)
one_limit_is_no_line limit e (refused status line refusal is) bad = let same = ap (λ (a : Answer). a.status) is in absurd (cc)

-- nor does a file that can't be opened
pub unopened_is_no_line : (name : List ℕ) (told : Option Names) (before now : FileFaults) (e : Ending) → Stops (taking name) told before now e
    → status_at e ≡ BadData → ⊥
unopened_is_no_line name told before now e (wants_memory quiet) bad = absurd (cc)
unopened_is_no_line name told before now e (lacks_name other line reads is quiet lacking) bad = absurd (cc)
unopened_is_no_line name told before now e (cannot_open other line reads is rose) bad = absurd (cc)
unopened_is_no_line name told before now e (cannot_read other line reads is rose) bad = absurd (cc)
unopened_is_no_line name told before now e (refuses status line refusal never quiet is) bad = absurd never

-- nor output and stores
pub finish_is_no_line : (out : List ℕ) (stores : List (List ℕ × List ℕ)) (old new : World) (e : Ending) → IsFinish out stores old new e
    → status_at e ≡ BadData → ⊥
finish_is_no_line out stores old new e (all_done unharmed puts made) bad = absurd (cc)
finish_is_no_line out stores old new e (put_failed rose files held part) bad = absurd (cc)
finish_is_no_line out stores old new e (store_failed name line there is rose puts whole part) bad = absurd (cc)

-- where no line is refused nothing is said of what is taken
pub spares_none : (names : List (List ℕ)) (ended : Status) (said : List ℕ) (rest : Option (List ℕ)) (told : Option Names) → (ended ≡ BadData → ⊥)
    → IsSparing names ended said rest told
spares_none names ended said rest told other = λ bad. absurd (other bad)

-- what a name holds that was opened
pub spares_name : (told : Option Names) (name said : List ℕ) (left rest : Option (List ℕ)) → IsOpened told name left
    → IfSome left (λ text. TakesFew name text said rest)
    → IfSome told (TakesFewAt name said rest)
spares_name None name said left rest is_open is = tt
spares_name (Some names) name said left rest is_open is = (is_open.0, is_open.1, rw is_open.2 at is)

-- one of the names
pub spares_one : (told : Option Names) (names : List (List ℕ)) (name said : List ℕ) (rest : Option (List ℕ)) → Contains names name
    → IfSome told (TakesFewAt name said rest) → IfSome told (TakesFewOf names said rest)
spares_one None names name said rest there is = tt
spares_one (Some held) names name said rest there is = (name, there, is)
