-- The kept records of an open file, one after the other.
use Rattle.std.proofs.Common.{◌≡◌, ℕ, Bool, List, [], ◌∷◌, refl, sym, ◌∙◌, ap, subst, Option, None, Some, Result, Ok, Err}
use Rattle.std.specs.Prelude.{IfSome}
use Rattle.cov_port.specs.Files.{Names, FileFaults}
use Rattle.cov_types.specs.declared.limit.LimitName.{LimitName}
use Rattle.cov_dat.specs.Reading.{only_fault, nothing_read, reading, with_record}
use Rattle.cov_dat.specs.Streaming.{FaultOf, IsFileFault, ReaderState, TellsLeft, fresh_reader, reading_left}
use Rattle.cov_dat.specs.declared.fault.DataFault.{DataFault}
use Rattle.cov_dat.specs.declared.fault.DataFault.TheVariants as fault
use Rattle.cov_dat.specs.declared.record_list.RecordList.{RecordList}
use Rattle.cov_dat.specs.declared.record_step.RecordStep.TheVariants as step
use Rattle.command_ending.specs.Answer.{Answer, over_limit, refused_with}
use Rattle.command_ending.specs.Opening.{IsOpened}
use Rattle.command_ending.specs.Stops.{IsRefusal, Stops}
use Rattle.command_ending.specs.declared.ending.Ending.{Ending}
use Rattle.command_ending.proofs.StopLemmas.{refusal_stops}
use Rattle.command_cover.specs.CoverReading.{ended, arrivals_of, file_arrivals, refusal_of}
use Rattle.command_cover.proofs.FaultLemmas.{fault_refuses}
use Rattle.command_cover.proofs.OpenLemmas.{if_text}
use Rattle.cover_gather.specs.Steps.{GoesOn, PassesLimit, StopsAt, TallyState, at_file, at_limit, continued, file_promise, one_arrival}
use Rattle.cover_gather.proofs.StepLemmas.{continued-append-ok, continued-append-err, records_split}

-- a reader that has read nothing goes on to the whole text
pub goes_first : (keeps : List ℕ → Bool) (ranks : Bool) (name : List ℕ) (t : TallyState) (left : Option (List ℕ)) (reader : ReaderState) → reader ≡ fresh_reader
    → IfSome left (λ text. GoesOn keeps ranks name t t text (reading_left reader left))
goes_first keeps ranks name t None reader fresh = tt
goes_first keeps ranks name t (Some text) reader fresh = rw fresh (record { read = reading text; told = refl; outcome = refl; flaw = refl })

next_one : (keeps : List ℕ → Bool) (ranks : Bool) (name : List ℕ) (first t more : TallyState) (key : List ℕ) (count : ℕ) (text : List ℕ)
    (before after : Option RecordList)
    → TellsLeft step.Record key count before after → continued ranks t (one_arrival keeps key count) ≡ Ok more → GoesOn keeps ranks name first t text before
    → GoesOn keeps ranks name first more text after
next_one keeps ranks name first t more key count text before after tells one goes =
    let told : (left : RecordList) × (after ≡ Some left) × (goes.read ≡ with_record key count left) = rw goes.told at tells in
    record {
      read = told.0;
      told = told.1;
      outcome = sym (continued-append-ok ranks t more (one_arrival keeps key count) (arrivals_of keeps name told.0) one)
          ∙ ap (continued ranks t) (sym (records_split keeps name key count told.0))
          ∙ ap (λ (list : RecordList). continued ranks t (arrivals_of keeps name list)) (sym told.2)
          ∙ goes.outcome;
      flaw = sym (ap (λ (list : RecordList). list.fault) told.2) ∙ goes.flaw;
    }

-- a record that is added or dropped
pub goes_next : (keeps : List ℕ → Bool) (ranks : Bool) (name : List ℕ) (left : Option (List ℕ)) (first t more : TallyState) (key : List ℕ)
    (count : ℕ) (before after : Option RecordList)
    → TellsLeft step.Record key count before after → continued ranks t (one_arrival keeps key count) ≡ Ok more
    → IfSome left (λ text. GoesOn keeps ranks name first t text before) → IfSome left (λ text. GoesOn keeps ranks name first more text after)
goes_next keeps ranks name left first t more key count before after tells one goes =
    if_text left _ _ (λ text on. next_one keeps ranks name first t more key count text before after tells one on) goes

-- what a name holds that is open
opened_text : (keeps : List ℕ → Bool) (ranks : Bool) (held : Option Names) (name : List ℕ) (left : Option (List ℕ)) (t : TallyState)
    (r : Result TallyState Answer) → IsOpened held name left
    → IfSome left (λ text. continued ranks t (arrivals_of keeps name (reading text)) ≡ r)
    → IfSome held (λ h. continued ranks t (file_arrivals keeps name (h name)) ≡ r)
opened_text keeps ranks None name left t r is_open is = tt
opened_text keeps ranks (Some names) name left t r is_open is =
    let whole : continued ranks t (arrivals_of keeps name (reading is_open.0)) ≡ r = rw is_open.2 at is in
    ap (λ (o : Option (List ℕ)). continued ranks t (file_arrivals keeps name o)) is_open.1 ∙ whole

last_one : (keeps : List ℕ → Bool) (ranks : Bool) (name : List ℕ) (first t : TallyState) (key : List ℕ) (count : ℕ) (text : List ℕ)
    (before after : Option RecordList)
    → TellsLeft step.End key count before after → GoesOn keeps ranks name first t text before
    → continued ranks t (ended ∷ []) ≡ continued ranks first (arrivals_of keeps name (reading text))
last_one keeps ranks name first t key count text before after tells goes =
    let told : (left : RecordList) × (after ≡ Some left) × ((goes.read ≡ nothing_read) × (left ≡ nothing_read)) = rw goes.told at tells in
    ap (λ (list : RecordList). continued ranks t (arrivals_of keeps name list)) (sym told.2.0) ∙ goes.outcome

-- the end of an open file
pub goes_last : (keeps : List ℕ → Bool) (ranks : Bool) (held : Option Names) (name : List ℕ) (left : Option (List ℕ)) (first t more : TallyState)
    (key : List ℕ) (count : ℕ) (before after : Option RecordList)
    → IsOpened held name left → TellsLeft step.End key count before after → continued ranks t (ended ∷ []) ≡ Ok more
    → IfSome left (λ text. GoesOn keeps ranks name first t text before)
    → IfSome held (λ h. continued ranks first (file_arrivals keeps name (h name)) ≡ Ok more)
goes_last keeps ranks held name left first t more key count before after is_open tells one goes =
    opened_text keeps ranks held name left first (Ok more) is_open
    (if_text left _ _ (λ text on. sym (last_one keeps ranks name first t key count text before after tells on) ∙ one) goes)

-- an open file that is refused stops its command
opened_stops : (keeps : List ℕ → Bool) (ranks : Bool) (Is : Answer → Type 0) (held : Option Names) (name : List ℕ) (left : Option (List ℕ))
    (first : TallyState) (faults now : FileFaults) (e : Ending)
    → IsOpened held name left → now ≡ faults → ((answer : Answer) → Is answer → StopsAt ranks name answer.status answer.line)
    → ((answer : Answer) → Is answer → IfSome left (λ text. continued ranks first (arrivals_of keeps name (reading text)) ≡ Err answer))
    → IsRefusal Is e → Stops (file_promise keeps ranks first name) held faults now e
opened_stops keeps ranks Is held name left first faults now e is_open quiet may outcome is =
    refusal_stops (file_promise keeps ranks first name) Is held faults now e quiet (λ status line one. may (refused_with status line) one)
    (each held is_open) is where
      each : (told : Option Names) → IsOpened told name left
          → IfSome told (λ h. (answer : Answer) → Is answer → continued ranks first (file_arrivals keeps name (h name)) ≡ Err answer)
      each None there = tt
      each (Some names) there = λ answer one. opened_text keeps ranks (Some names) name left first (Err answer) there (outcome answer one)

past_limit : (keeps : List ℕ → Bool) (ranks : Bool) (name : List ℕ) (first t : TallyState) (key : List ℕ) (count : ℕ) (limit : LimitName)
    (text : List ℕ) (before after : Option RecordList)
    → TellsLeft step.Record key count before after → continued ranks t (one_arrival keeps key count) ≡ Err (over_limit limit)
    → GoesOn keeps ranks name first t text before → continued ranks first (arrivals_of keeps name (reading text)) ≡ Err (over_limit limit)
past_limit keeps ranks name first t key count limit text before after tells past goes =
    let told : (left : RecordList) × (after ≡ Some left) × (goes.read ≡ with_record key count left) = rw goes.told at tells in
    sym goes.outcome ∙ ap (λ (list : RecordList). continued ranks t (arrivals_of keeps name list)) told.2
    ∙ ap (continued ranks t) (records_split keeps name key count told.0)
    ∙ continued-append-err ranks t (one_arrival keeps key count) (arrivals_of keeps name told.0) (over_limit limit) past

-- a record that passes a limit
pub limit_stops : (keeps : List ℕ → Bool) (ranks : Bool) (held : Option Names) (name : List ℕ) (left : Option (List ℕ)) (first t : TallyState)
    (key : List ℕ) (count : ℕ) (before after : Option RecordList) (faults now : FileFaults) (e : Ending) → IsOpened held name left → now ≡ faults
    → TellsLeft step.Record key count before after → IfSome left (λ text. GoesOn keeps ranks name first t text before)
    → IsRefusal (PassesLimit ranks t (one_arrival keeps key count)) e → Stops (file_promise keeps ranks first name) held faults now e
limit_stops keeps ranks held name left first t key count before after faults now e is_open quiet tells goes is =
    opened_stops keeps ranks _ held name left first faults now e is_open quiet
    (λ answer one. subst (λ (x : Answer). StopsAt ranks name x.status x.line) (sym one.said) (at_limit one.limit one.may))
    (λ answer one. if_text left _ _ (λ text on.
    past_limit keeps ranks name first t key count one.limit text before after tells one.outcome on ∙ ap Err (sym one.said)) goes)
    is

-- the end of a file that passes a limit
pub end_stops : (keeps : List ℕ → Bool) (ranks : Bool) (held : Option Names) (name : List ℕ) (left : Option (List ℕ)) (first t : TallyState)
    (key : List ℕ) (count : ℕ) (before after : Option RecordList) (faults now : FileFaults) (e : Ending) → IsOpened held name left → now ≡ faults
    → TellsLeft step.End key count before after → IfSome left (λ text. GoesOn keeps ranks name first t text before)
    → IsRefusal (PassesLimit ranks t (ended ∷ [])) e → Stops (file_promise keeps ranks first name) held faults now e
end_stops keeps ranks held name left first t key count before after faults now e is_open quiet tells goes is =
    opened_stops keeps ranks _ held name left first faults now e is_open quiet
    (λ answer one. subst (λ (x : Answer). StopsAt ranks name x.status x.line) (sym one.said) (at_limit one.limit one.may))
    (λ answer one. if_text left _ _ (λ text on.
    sym (last_one keeps ranks name first t key count text before after tells on) ∙ one.outcome ∙ ap Err (sym one.said)) goes)
    is

at_fault : (keeps : List ℕ → Bool) (ranks : Bool) (name : List ℕ) (first t : TallyState) (text : List ℕ) (before : Option RecordList)
    (flaw : DataFault) → FaultOf before flaw
    → (flaw ≡ fault.Failed → ⊥) → GoesOn keeps ranks name first t text before
    → (continued ranks first (arrivals_of keeps name (reading text)) ≡ Err (refusal_of name flaw)) × ((reading text).fault ≡ Some flaw)
at_fault keeps ranks name first t text before flaw is other goes =
    let only : goes.read ≡ only_fault flaw = rw goes.told at is other in (
      sym goes.outcome ∙ ap (λ (list : RecordList). continued ranks t (arrivals_of keeps name list)) only,
      sym goes.flaw ∙ ap (λ (list : RecordList). list.fault) only,
    )

-- a line that is refused
pub fault_stops : (keeps : List ℕ → Bool) (ranks : Bool) (held : Option Names) (name : List ℕ) (left : Option (List ℕ)) (first t : TallyState)
    (before : Option RecordList)
    (faults now : FileFaults) (flaw : DataFault) (e : Ending) → IsOpened held name left → now ≡ faults → FaultOf before flaw → (flaw ≡ fault.Failed → ⊥)
    → IsFileFault flaw → IfSome left (λ text. GoesOn keeps ranks name first t text before) → IsRefusal (λ answer. answer ≡ refusal_of name flaw) e
    → Stops (file_promise keeps ranks first name) held faults now e
fault_stops keeps ranks held name left first t before faults now flaw e is_open quiet is_fault other names goes is =
    opened_stops keeps ranks _ held name left first faults now e is_open quiet
    (λ answer same. subst (λ (x : Answer). StopsAt ranks name x.status x.line) (sym same)
    (at_file (refusal_of name flaw).status (refusal_of name flaw).line (fault_refuses name flaw other names)))
    (λ answer same. if_text left _ _ (λ text on. (at_fault keeps ranks name first t text before flaw is_fault other on).0 ∙ ap Err (sym same)) goes)
    is

-- the whole text has the fault
pub text_fault : (keeps : List ℕ → Bool) (ranks : Bool) (name : List ℕ) (left : Option (List ℕ)) (first t : TallyState) (before : Option RecordList)
    (flaw : DataFault)
    → FaultOf before flaw → (flaw ≡ fault.Failed → ⊥)
    → IfSome left (λ text. GoesOn keeps ranks name first t text before) → IfSome left (λ text. (reading text).fault ≡ Some flaw)
text_fault keeps ranks name left first t before flaw is other goes =
    if_text left _ _ (λ text on. (at_fault keeps ranks name first t text before flaw is other on).1) goes
