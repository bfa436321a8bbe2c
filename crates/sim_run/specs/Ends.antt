-- Where a run over the rows of a stimulus ends, and what stands then.
use Rattle.std.specs.Prelude.{◌≡◌, ℕ, List, ◌++◌, Option, None, Some, IfSome}
use Rattle.cov_port.specs.Causes.{Both, Rose}
use Rattle.cov_port.specs.Files.{FileFaults, ReadsRose}
use Rattle.cov_port.specs.Sinks.{FrontPut, PutsPart}
use Rattle.circuit_run.specs.Ends.{End, goes}
use Rattle.design_meaning.specs.Cycles.{Between}
use Rattle.design_meaning.specs.Runs.{IsRun}
use Rattle.design_tree.specs.declared.instrumented.Instrumented.{Instrumented}
use Rattle.stim_lines.specs.declared.fault.StimFault.{StimFault}
use Rattle.stim_lines.specs.declared.row.StimText.{StimText}
use Rattle.cycle_run.specs.Ends.{end_seen}
use Rattle.cycle_run.specs.declared.end.CycleEnd.{CycleEnd}
use Rattle.cycle_run.specs.declared.end.CycleEnd.TheVariants.{Goes, Finished, Stopped}
use Rattle.sim_answer.specs.SimAnswer.{values_of}
use Rattle.sim_answer.specs.Underway.{PrintsOn}
use Rattle.sim_run.specs.Running.{HasRun, HasRunPart}
use Rattle.sim_run.specs.declared.rows_end.RowsEnd.{RowsEnd}
use Rattle.sim_run.specs.declared.rows_end.RowsEnd.TheVariants.{Ended, Refused, ReadFailed, PutFailed}

-- ---- for the callers of the whole run

-- a fact where the run ended by itself
abbrev pub IfEnded : RowsEnd → (CycleEnd → Type 0) → Type 0
IfEnded (Ended end) P = P end
IfEnded (Refused flaw) P = Unit {0}
IfEnded ReadFailed P = Unit {0}
IfEnded PutFailed P = Unit {0}

-- a fact where a line was refused
abbrev pub IfRefused : RowsEnd → (StimFault → Type 0) → Type 0
IfRefused (Ended end) P = Unit {0}
IfRefused (Refused flaw) P = P flaw
IfRefused ReadFailed P = Unit {0}
IfRefused PutFailed P = Unit {0}

-- a fact where a read or a put failed
abbrev pub IfFailed : RowsEnd → Type 0 → Type 0
IfFailed (Ended end) P = Unit {0}
IfFailed (Refused flaw) P = Unit {0}
IfFailed ReadFailed P = P
IfFailed PutFailed P = P

-- A run on the rows that are told came to its end. All that was kept and its text are put, but for what is kept now.
pub record HasEnded (x : Instrumented) (told : Option StimText) (end : End) (counts kept kept_now : List ℕ) (put put_now : Option (List ℕ)) : Type 0 where
  pub text : List ℕ
  pub printed : Both (FrontPut (kept ++ text) kept_now) put put_now
  pub run : IfSome told (λ stim. IsRun x (values_of stim.rows) text end counts)

-- A run was given up. Some first bytes are put of what was kept and of a text that a run on the rows that are told begins with.
pub record HasBegun (x : Instrumented) (told : Option StimText) (kept : List ℕ) (put put_now : Option (List ℕ)) : Type 0 where
  pub text : List ℕ
  pub part : Both (PutsPart (kept ++ text)) put put_now
  pub run : IfSome told (λ stim. PrintsOn x (values_of stim.rows) text)

-- where the stimulus was read to its end no line is refused
abbrev pub IsWhole : CycleEnd → Option StimText → Type 0
IsWhole Goes told = IfSome told (λ stim. stim.fault ≡ None)
IsWhole Finished told = Unit {0}
IsWhole Stopped told = Unit {0}

-- a failure has its cause, and nothing else raises a number
abbrev pub HasCauses : RowsEnd → FileFaults → FileFaults → ℕ → ℕ → Type 0
HasCauses (Ended end) reads reads_now puts puts_now = (reads_now ≡ reads) × (puts_now ≡ puts)
HasCauses (Refused flaw) reads reads_now puts puts_now = (reads_now ≡ reads) × (puts_now ≡ puts)
HasCauses ReadFailed reads reads_now puts puts_now = ReadsRose reads reads_now × (puts_now ≡ puts)
HasCauses PutFailed reads reads_now puts puts_now = (reads_now ≡ reads) × Rose puts puts_now

-- ---- row by row

-- these cycles come first of those that the rows stand for
abbrev pub ComeFirst : List (List ℕ) → StimText → Type 0
ComeFirst ran stim = (left : List (List ℕ)) × (values_of stim.rows ≡ ran ++ left)

-- these cycles are all that the rows stand for, and this is their fault
pub record AreAll (ran : List (List ℕ)) (flaw : Option StimFault) (stim : StimText) : Type 0 where
  pub cycles : values_of stim.rows ≡ ran
  pub fault : stim.fault ≡ flaw

-- the cycles up to a flag come first, and without a flag they are all
abbrev pub ComeTo : CycleEnd → List (List ℕ) → StimText → Type 0
ComeTo Goes ran stim = AreAll ran None stim
ComeTo Finished ran stim = ComeFirst ran stim
ComeTo Stopped ran stim = ComeFirst ran stim

-- cycles were run, and this is told of them
pub record EndsBehind (x : Instrumented) (before after : Between) (end : End) (told : Option StimText) (Told : List (List ℕ) → StimText → Type 0)
    (kept kept_now : List ℕ) (put put_now : Option (List ℕ)) : Type 0 where
  pub ran : List (List ℕ)
  pub has_run : HasRun x before after ran end kept kept_now put put_now
  pub first : IfSome told (Told ran)

-- cycles were run, and a put failed
pub record FailsBehind (x : Instrumented) (before after : Between) (end : End) (told : Option StimText) (kept : List ℕ)
    (put put_now : Option (List ℕ)) : Type 0 where
  pub ran : List (List ℕ)
  pub has_run : HasRunPart x before after ran end kept put put_now
  pub first : IfSome told (ComeFirst ran)

-- what was run and put of the rows that are told; where a put failed, the last cycle ended so
abbrev pub RowsEndIn : RowsEnd → Instrumented → Between → Between → End → Option StimText → List ℕ → List ℕ → Option (List ℕ) → Option (List ℕ) → Type 0
RowsEndIn (Ended end) x before after last told kept kept_now put put_now =
    EndsBehind x before after (end_seen end) told (ComeTo end) kept kept_now put put_now
RowsEndIn (Refused flaw) x before after last told kept kept_now put put_now =
    EndsBehind x before after goes told (λ ran. AreAll ran (Some flaw)) kept kept_now put put_now
RowsEndIn ReadFailed x before after last told kept kept_now put put_now = EndsBehind x before after goes told ComeFirst kept kept_now put put_now
RowsEndIn PutFailed x before after last told kept kept_now put put_now = FailsBehind x before after last told kept put put_now
