-- The records of an open file, one after the other.
use Rattle.std.proofs.Common.{◌≡◌, ℕ, List, [], refl, sym, ◌∙◌, ap, subst, Option, None, Some, Result, Err}
use Rattle.std.specs.Prelude.{IfSome}
use Rattle.cov_port.specs.Files.{Names, FileFaults, ReadsRose}
use Rattle.cov_types.specs.declared.limit.LimitName.{LimitName}
use Rattle.cov_dat.specs.Reading.{only_fault, reading, with_record}
use Rattle.cov_dat.specs.Merging.{Counts, added, limit_passed}
use Rattle.cov_dat.specs.Streaming.{FaultOf, FirstFault, IsFileFault, ReadFailedBy, ReaderState, StandsIn, TellsLeft, fresh_reader, reading_left}
use Rattle.cov_dat.specs.declared.fault.DataFault.{DataFault}
use Rattle.cov_dat.specs.declared.fault.DataFault.TheVariants as fault
use Rattle.cov_dat.specs.declared.merge_fault.MergeFault.{MergeFault}
use Rattle.cov_dat.specs.declared.merge_fault.MergeFault.TheVariants as merge_fault
use Rattle.cov_dat.specs.declared.record_list.RecordList.{RecordList}
use Rattle.cov_dat.specs.declared.record_step.RecordStep.TheVariants as step
use Rattle.command_ending.specs.Answer.{Answer, over_limit, refused_with}
use Rattle.command_ending.specs.Opening.{IsOpened}
use Rattle.command_ending.specs.Stops.{IsRefusal, Stops}
use Rattle.command_ending.specs.declared.ending.Ending.{Ending}
use Rattle.command_ending.proofs.StopLemmas.{refusal_stops}
use Rattle.command_cover.specs.CoverReading.{arrivals_of, file_arrivals, refusal_of}
use Rattle.command_cover.specs.Merge.{keeps_all}
use Rattle.command_cover.specs.MergePromise.{FileRefuses, past_limit}
use Rattle.command_cover.specs.Steps.{GoesOn, continued, file_promise}
use Rattle.command_cover.proofs.FaultLemmas.{fault_refuses}
use Rattle.command_cover.proofs.StepLemmas.{continued-past, merge_limit}

-- a fact on a told text, from another
pub if_text : (left : Option (List ℕ)) (P Q : List ℕ → Type 0) → ((text : List ℕ) → P text → Q text) → IfSome left P → IfSome left Q
if_text None P Q weaker is = tt
if_text (Some text) P Q weaker is = weaker text is

-- a reader that has read nothing goes on to the whole text, and stands at its beginning
pub goes_first : (name : List ℕ) (counts : Counts) (left : Option (List ℕ)) (reader : ReaderState) → reader ≡ fresh_reader
    → IfSome left (λ text. GoesOn name counts counts text (reading_left reader left))
goes_first name counts None reader fresh = tt
goes_first name counts (Some text) reader fresh = rw fresh (record { read = reading text; told = refl; outcome = refl; flaw = refl })

pub stands_first : (left : Option (List ℕ)) (reader : ReaderState) → reader ≡ fresh_reader → IfSome left (λ text. StandsIn text reader left)
stands_first None reader fresh = tt
stands_first (Some text) reader fresh = rw fresh (record {
  front = [];
  before = [];
  left = text;
  told = refl;
  split = refl;
  lines = refl;
  number = refl;
  bytes = refl;
  counted = refl;
  no_fault = refl;
})

-- what a name holds that is open
opened_text : (held : Option Names) (name : List ℕ) (left : Option (List ℕ)) (counts : Counts) (r : Result Counts Answer) → IsOpened held name left
    → IfSome left (λ text. continued counts (arrivals_of keeps_all name (reading text)) ≡ r)
    → IfSome held (λ h. continued counts (file_arrivals keeps_all name (h name)) ≡ r)
opened_text None name left counts r is_open is = tt
opened_text (Some names) name left counts r is_open is =
    let whole : continued counts (arrivals_of keeps_all name (reading is_open.0)) ≡ r = rw is_open.2 at is in
    ap (λ (o : Option (List ℕ)). continued counts (file_arrivals keeps_all name o)) is_open.1 ∙ whole

-- an open file that is refused stops its command
opened_stops : (Is : Answer → Type 0) (held : Option Names) (name : List ℕ) (left : Option (List ℕ)) (first : Counts) (faults now : FileFaults) (e : Ending)
    → IsOpened held name left → now ≡ faults → ((answer : Answer) → Is answer → FileRefuses name answer.status answer.line)
    → ((answer : Answer) → Is answer → IfSome left (λ text. continued first (arrivals_of keeps_all name (reading text)) ≡ Err answer))
    → IsRefusal Is e → Stops (file_promise first name) held faults now e
opened_stops Is held name left first faults now e is_open quiet may outcome is =
    refusal_stops (file_promise first name) Is held faults now e quiet (λ status line one. may (refused_with status line) one) (each held is_open) is where
      each : (told : Option Names) → IsOpened told name left
          → IfSome told (λ h. (answer : Answer) → Is answer → continued first (file_arrivals keeps_all name (h name)) ≡ Err answer)
      each None there = tt
      each (Some names) there = λ answer one. opened_text (Some names) name left first (Err answer) there (outcome answer one)

at_limit : (name : List ℕ) (first counts : Counts) (key : List ℕ) (count : ℕ) (limit : LimitName) (text : List ℕ) (before after : Option RecordList)
    → TellsLeft step.Record key count before after → limit_passed (added counts key count) ≡ Some limit → GoesOn name first counts text before
    → continued first (arrivals_of keeps_all name (reading text)) ≡ Err (over_limit limit)
at_limit name first counts key count limit text before after tells past goes =
    let told : (left : RecordList) × (after ≡ Some left) × (goes.read ≡ with_record key count left) = rw goes.told at tells in
    sym goes.outcome ∙ ap (λ (list : RecordList). continued counts (arrivals_of keeps_all name list)) told.2
    ∙ continued-past counts (record { key = key; count = count }) (arrivals_of keeps_all name told.0) limit past

-- a record that passes a limit
pub limit_stops : (held : Option Names) (name : List ℕ) (left : Option (List ℕ)) (first counts : Counts) (key : List ℕ) (count : ℕ)
    (before after : Option RecordList)
    (faults now : FileFaults) (flaw : MergeFault) (e : Ending) → IsOpened held name left → now ≡ faults → TellsLeft step.Record key count before after
    → ((limit : LimitName) → flaw ≡ merge_fault.Limit limit → limit_passed (added counts key count) ≡ Some limit)
    → IfSome left (λ text. GoesOn name first counts text before)
    → IsRefusal (λ answer. (limit : LimitName) × (flaw ≡ merge_fault.Limit limit) × (answer ≡ over_limit limit)) e
    → Stops (file_promise first name) held faults now e
limit_stops held name left first counts key count before after faults now flaw e is_open quiet tells past goes is =
    opened_stops _ held name left first faults now e is_open quiet
    (λ answer one. subst (λ (x : Answer). FileRefuses name x.status x.line) (sym one.2) (past_limit one.0
    (merge_limit (added counts key count) one.0 (past one.0 one.1))))
    (λ answer one. if_text left _ _ (λ text on. at_limit name first counts key count one.0 text before after tells (past one.0 one.1) on ∙ ap Err
    (sym one.2)) goes)
    is

at_fault : (name : List ℕ) (first counts : Counts) (text : List ℕ) (before : Option RecordList) (flaw : DataFault) → FaultOf before flaw
    → (flaw ≡ fault.Failed → ⊥)
    → GoesOn name first counts text before
    → (continued first (arrivals_of keeps_all name (reading text)) ≡ Err (refusal_of name flaw)) × ((reading text).fault ≡ Some flaw)
at_fault name first counts text before flaw is other goes =
    let only : goes.read ≡ only_fault flaw = rw goes.told at is other in (
      sym goes.outcome ∙ ap (λ (list : RecordList). continued counts (arrivals_of keeps_all name list)) only,
      sym goes.flaw ∙ ap (λ (list : RecordList). list.fault) only,
    )

-- a fault that was not met before
pub first_fault : (met : Option DataFault) (flaw : DataFault) → met ≡ None → FirstFault met flaw → IsFileFault flaw
first_fault met flaw none is = rw none at is

-- a line that is refused
pub fault_stops : (held : Option Names) (name : List ℕ) (left : Option (List ℕ)) (first counts : Counts) (before : Option RecordList) (faults now : FileFaults)
    (flaw : DataFault) (e : Ending) → IsOpened held name left → now ≡ faults → FaultOf before flaw → (flaw ≡ fault.Failed → ⊥) → IsFileFault flaw
    → IfSome left (λ text. GoesOn name first counts text before) → IsRefusal (λ answer. answer ≡ refusal_of name flaw) e
    → Stops (file_promise first name) held faults now e
fault_stops held name left first counts before faults now flaw e is_open quiet is_fault other names goes is =
    opened_stops _ held name left first faults now e is_open quiet
    (λ answer same. subst (λ (x : Answer). FileRefuses name x.status x.line) (sym same) (fault_refuses name flaw other names))
    (λ answer same. if_text left _ _ (λ text on. (at_fault name first counts text before flaw is_fault other on).0 ∙ ap Err (sym same)) goes)
    is

-- the whole text has the fault
pub text_fault : (name : List ℕ) (left : Option (List ℕ)) (first counts : Counts) (before : Option RecordList) (flaw : DataFault) → FaultOf before flaw
    → (flaw ≡ fault.Failed → ⊥)
    → IfSome left (λ text. GoesOn name first counts text before) → IfSome left (λ text. (reading text).fault ≡ Some flaw)
text_fault name left first counts before flaw is other goes = if_text left _ _ (λ text on. (at_fault name first counts text before flaw is other on).1) goes

-- a read that failed, of a reader that had met no fault
pub read_rose : (met : Option DataFault) (before now : FileFaults) → met ≡ None → ReadFailedBy met before now → ReadsRose before now
read_rose met before now none is = rw none at is
