-- The data files of a `cover`, read one after the other (docs/commands.md, "cover").
use Rattle.std.specs.Prelude.{◌≡◌, ℕ, Bool, List, [], ◌∷◌, ◌++◌, map, filter, codes, Option, None, Some, option_map, Result, Ok, Err}
use Rattle.std.specs.List.{flat_map}
use Rattle.cov_port.specs.Files.{Names}
use Rattle.cov_dat.specs.Reading.{reading}
use Rattle.cov_dat.specs.Merging.{merged, limit_passed}
use Rattle.cov_dat.specs.declared.fault.DataFault.{DataFault}
use Rattle.cov_dat.specs.declared.fault.DataFault.TheVariants as fault
use Rattle.cov_dat.specs.declared.record_list.Record.{Record}
use Rattle.cov_dat.specs.declared.record_list.RecordList.{RecordList}
use Rattle.command_ending.specs.Answer.{Answer, over_limit, absent, bad_data}

-- What comes while data files are read: a record that is kept, the end of a file, or a reason to stop.
pub data Arrival : Type 0 where
  arrived : Record → Arrival
  ended : Arrival
  stopped : Answer → Arrival

-- what a fault of a file comes to; a failed read is none of a text
abbrev pub refusal_of : List ℕ → DataFault → Answer
refusal_of name (fault.BadHeader n) = bad_data name n (codes "BadHeader")
refusal_of name (fault.BadRecord n) = bad_data name n (codes "BadRecord")
refusal_of name (fault.BadCount n) = bad_data name n (codes "BadCount")
refusal_of name (fault.LineTooLong n) = bad_data name n (codes "LineTooLong")
refusal_of name fault.Failed = absent name
refusal_of name (fault.Limit limit) = over_limit limit

-- a file without fault ends
abbrev pub end_of : List ℕ → Option DataFault → Arrival
end_of name None = ended
end_of name (Some flaw) = stopped (refusal_of name flaw)

-- the kept records of a reading, and then its end or its fault
abbrev pub arrivals_of : (List ℕ → Bool) → List ℕ → RecordList → List Arrival
arrivals_of keeps name list = map arrived (filter (λ (r : Record). keeps r.key) list.records) ++ end_of name list.fault ∷ []

-- what comes from a file; a name that isn't held is a reason to stop
abbrev pub file_arrivals : (List ℕ → Bool) → List ℕ → Option (List ℕ) → List Arrival
file_arrivals keeps name None = stopped (absent name) ∷ []
file_arrivals keeps name (Some text) = arrivals_of keeps name (reading text)

-- what comes from the files, in order
abbrev pub all_arrivals : Names → (List ℕ → Bool) → List (List ℕ) → List Arrival
all_arrivals held keeps names = flat_map (λ name. file_arrivals keeps name (held name)) names

-- the records among what came
abbrev pub records_in : List Arrival → List Record
records_in [] = []
records_in (arrived r ∷ rest) = r ∷ records_in rest
records_in (ended ∷ rest) = records_in rest
records_in (stopped answer ∷ rest) = records_in rest

-- why reading stops at what comes behind this: for a reason of its own, or since a record takes the merged counts past a limit
abbrev pub reason_at : List Arrival → Arrival → Option Answer
reason_at before (arrived r) = option_map over_limit (limit_passed (merged (records_in before ++ r ∷ [])))
reason_at before ended = None
reason_at before (stopped answer) = Some answer

-- Reading stops at none of this.
abbrev pub IsReadOn : List Arrival → Type 0
IsReadOn arrivals = (before : List Arrival) (a : Arrival) (after : List Arrival) → arrivals ≡ before ++ a ∷ after → reason_at before a ≡ None

-- What reading comes to: all records, or the first reason to stop.
pub data IsReading (arrivals : List Arrival) : Result (List Record) Answer → Type 0 where
  all_read : IsReadOn arrivals → IsReading arrivals (Ok (records_in arrivals))
  stops_at : (before : List Arrival) (a : Arrival) (after : List Arrival) (answer : Answer) → arrivals ≡ before ++ a ∷ after
      → IsReadOn before → reason_at before a ≡ Some answer → IsReading arrivals (Err answer)
