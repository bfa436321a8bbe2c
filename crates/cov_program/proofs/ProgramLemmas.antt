-- What words leave, by their task.
use Rattle.std.proofs.Common.{◌≡◌, ℕ, false, List, [], refl, subst, Option, None, Some, Result, Ok, Err, arith}
use Rattle.std.specs.Prelude.{IfSome, OnOk, OnErr}
use Rattle.cov_port.specs.Causes.{Both, HasCause}
use Rattle.cov_port.specs.Files.{Names, FileFaults}
use Rattle.cov_port.specs.Sinks.{PutsAll, PutsPart}
use Rattle.command_ending.specs.Answer.{refused_with}
use Rattle.command_ending.specs.Ending.{line_at, status_at}
use Rattle.command_ending.specs.ErrorLines.{words_line}
use Rattle.command_ending.specs.Leaves.{IsSaid, Leaves}
use Rattle.command_ending.specs.Promise.{Promise, IsLineOf}
use Rattle.command_ending.specs.World.{World, world}
use Rattle.command_ending.specs.declared.status.Status.{Status}
use Rattle.command_ending.specs.declared.status.Status.TheVariants.{BadData, BadStimulus, BadWords, NoMemory}
use Rattle.command_ending.specs.Stops.{wants_memory}
use Rattle.command_ending.specs.declared.ending.Ending.TheVariants as ending
use Rattle.command_ending.proofs.PutLemmas.{always_told, puts_all_part, puts_none, stores_none}
use Rattle.command_ending.proofs.StopLemmas.{stops_leave}
use Rattle.cvd_text.specs.Fault.{Flaw, not_cvd, version, bad_token, bad_number, bad_shape, truncated, trailing, invalid}
use Rattle.design_meaning.specs.FlowFaults.{Fault}
use Rattle.stim_lines.specs.declared.fault.StimFault.{StimFault}
use Rattle.stim_lines.specs.declared.fault.StimFault.TheVariants as fault
use Rattle.sim_answer.specs.Refusals.{design_refusal, stimulus_refusal}
use Rattle.sim_answer.specs.SimPromise.{SimRefuses, by_stop, in_design, in_stimulus, sim_promise}
use Rattle.sim_answer.specs.SimPromise as sim
use Rattle.sim_answer.specs.Simulation.{Simulation}
use Rattle.command_check.specs.CheckPromise.{CheckRefuses, too_many, too_long, in_file, DesignRefuses, at_place, past_limit}
use Rattle.command_cover.specs.MergePromise.{FileRefuses}
use Rattle.command_cover.specs.MergePromise as merge
use Rattle.cov_words.specs.Command.{Covering}
use Rattle.cover_answer.specs.CoverPromise.{CoverRefuses, ReportRefuses}
use Rattle.cover_answer.specs.CoverPromise as cover
use Rattle.cov_program.specs.Promises.{promise_of, task_promise}
use Rattle.cov_program.specs.Sparing.{TaskSpares}
use Rattle.cov_program.specs.Words.{Task, checking, covering, simulating, task_of}

-- what words promise is what their task does
pub leaves_task : (words : List (List ℕ)) (task : Option Task) (said : List ℕ) (old new : World) (ended : Status) → task ≡ task_of words
    → Leaves (task_promise task) said old new ended → Leaves (promise_of words) said old new ended
leaves_task words task said old new ended same is = subst (λ (t : Option Task). Leaves (task_promise t) said old new ended) same is

-- a `sim` leaves the same whichever way what it is asked for is told
pub sim_leaves : (one other : Simulation) (said : List ℕ) (old new : World) (ended : Status) → one ≡ other
    → Leaves (sim_promise one) said old new ended → Leaves (sim_promise other) said old new ended
sim_leaves one other said old new ended same is = subst (λ (s : Simulation). Leaves (sim_promise s) said old new ended) same is

-- words that ask for nothing
pub leaves_words : (words : List (List ℕ)) (old : Option Names) (faults : FileFaults) (written : Option (List ℕ)) (put_faults : ℕ) → None ≡ task_of words
    → Leaves (promise_of words) words_line (world old faults written put_faults) (world old faults written put_faults) BadWords
leaves_words words old faults written put_faults none = leaves_task words None words_line _ _ BadWords none (record {
  answer = λ fault want. always_told old _ (λ names. (
    refused_with BadWords words_line,
    refl,
    record { status = refl; stores = stores_none old old refl; output = puts_none written written refl; line = refl },
  ));
  unharmed = λ other. record { files = refl; out = refl };
  fault = λ never. absurd (cc);
  untouched = λ first. record { held = refl; written = refl };
  line = (refl, refl);
})

-- names for which memory is wanted
pub leaves_wanting : (p : Promise) (old : Option Names) (faults : FileFaults) (written : Option (List ℕ)) (put_faults : ℕ) → p.prints_early ≡ false
    → Leaves p (line_at ending.NoMemory) (world old faults written put_faults) (world old faults written put_faults) (status_at ending.NoMemory)
leaves_wanting p old faults written put_faults late = stops_leave p old old faults faults written put_faults ending.NoMemory late refl (wants_memory refl)

design_words : (name : List ℕ) (status : Status) (line : List ℕ) → DesignRefuses name status line → status ≡ BadWords → ⊥
design_words name status line (at_place place code from is) same = absurd (cc)
design_words name status line (past_limit limit is) same = absurd (cc)

check_words : (names : List (List ℕ)) (status : Status) (line : List ℕ) → CheckRefuses names status line → status ≡ BadWords → ⊥
check_words names status line (too_many many) same = absurd (cc)
check_words names status line (too_long few) same = absurd (cc)
check_words names status line (in_file name s l few there is) same = design_words name status line is same

file_words : (name : List ℕ) (status : Status) (line : List ℕ) → FileRefuses name status line → status ≡ BadWords → ⊥
file_words name status line (merge.bad_line n code from is) same = absurd (cc)
file_words name status line (merge.past_limit limit is) same = absurd (cc)

report_words : (asked : Covering) (status : Status) (line : List ℕ) → ReportRefuses asked status line → status ≡ BadWords → ⊥
report_words asked status line (cover.bad_key_line file looks) same = absurd (cc)
report_words asked status line (cover.too_many_lines looks) same = absurd (cc)
report_words asked status line (cover.bad_file_name file on bad) same = absurd (cc)
report_words asked status line (cover.same_base_name file may) same = absurd (cc)
report_words asked status line (cover.too_long on) same = absurd (cc)
report_words asked status line (cover.short_source file lines may) same = absurd (cc)

cover_words : (asked : Covering) (status : Status) (line : List ℕ) → CoverRefuses asked status line → status ≡ BadWords → ⊥
cover_words asked status line (cover.too_many many) same = absurd (cc)
cover_words asked status line (cover.in_file name s l few there is) same = file_words name status line is same
cover_words asked status line (cover.too_many_pairs few on) same = absurd (cc)
cover_words asked status line (cover.in_report s l few is) same = report_words asked status line is same

design_flaw_words : (name : List ℕ) (flaw : Flaw Fault) → (design_refusal name flaw).status ≡ BadWords → ⊥
design_flaw_words name (not_cvd n) same = absurd (cc)
design_flaw_words name (version n) same = absurd (cc)
design_flaw_words name (bad_token n) same = absurd (cc)
design_flaw_words name (bad_number n) same = absurd (cc)
design_flaw_words name (bad_shape n) same = absurd (cc)
design_flaw_words name (truncated n) same = absurd (cc)
design_flaw_words name (trailing n) same = absurd (cc)
design_flaw_words name (invalid flaw) same = absurd (cc)

stimulus_flaw_words : (name : List ℕ) (flaw : StimFault) → (stimulus_refusal [] name flaw).status ≡ BadWords → ⊥
stimulus_flaw_words name (fault.BadHeader n) same = absurd (cc)
stimulus_flaw_words name (fault.UnknownInput n) same = absurd (cc)
stimulus_flaw_words name (fault.MissingInput n) same = absurd (cc)
stimulus_flaw_words name (fault.RepeatedInput n) same = absurd (cc)
stimulus_flaw_words name (fault.BadValue n) same = absurd (cc)
stimulus_flaw_words name (fault.TooWide n) same = absurd (cc)
stimulus_flaw_words name (fault.WrongCount n) same = absurd (cc)
stimulus_flaw_words name (fault.BadRepeat n) same = absurd (cc)
stimulus_flaw_words name (fault.TooManyCycles n) same = absurd (cc)
stimulus_flaw_words name (fault.LineTooLong n) same = absurd (cc)
stimulus_flaw_words name fault.Failed same = absurd (cc)
stimulus_flaw_words name (fault.Limit limit) same = absurd (cc)
stimulus_flaw_words name fault.NoMemory same = absurd (cc)

sim_words : (asked : Simulation) (status : Status) (line : List ℕ) → SimRefuses asked status line → status ≡ BadWords → ⊥
sim_words asked status line sim.too_long same = absurd (cc)
sim_words asked status line (in_design flaw) same = design_flaw_words asked.design flaw same
sim_words asked status line (in_stimulus flaw text) same = stimulus_flaw_words asked.stimulus flaw same
sim_words asked status line by_stop same = absurd (cc)

not_words : (R : Status → List ℕ → Type 0) (ended : Status) (line : List ℕ) → ((l : List ℕ) → R BadWords l → ⊥) → IsLineOf R ended line → ended ≡ BadWords → ⊥
not_words R ended line none is same = none line (subst (λ (s : Status). IsLineOf R s line) same is)

-- a check or a `cover` doesn't end for bad words
pub check_not_words : (names : List (List ℕ)) (ended : Status) (line : List ℕ) → IsLineOf (CheckRefuses names) ended line → ended ≡ BadWords → ⊥
check_not_words names ended line is same = not_words (CheckRefuses names) ended line (λ l may. check_words names BadWords l may refl) is same

pub cover_not_words : (asked : Covering) (ended : Status) (line : List ℕ) → IsLineOf (CoverRefuses asked) ended line → ended ≡ BadWords → ⊥
cover_not_words asked ended line is same = not_words (CoverRefuses asked) ended line (λ l may. cover_words asked BadWords l may refl) is same

pub sim_not_words : (asked : Simulation) (ended : Status) (line : List ℕ) → IsLineOf (SimRefuses asked) ended line → ended ≡ BadWords → ⊥
sim_not_words asked ended line is same = not_words (SimRefuses asked) ended line (λ l may. sim_words asked BadWords l may refl) is same

-- a line that was put, or failed to be
pub said : {E : Type 0} (line : List ℕ) (before now : ℕ) (old new : Option (List ℕ)) (result : Result Unit E) → OnOk result (Both (PutsAll line) old new)
    → OnErr result (Both (PutsPart line) old new) → HasCause before now result → IsSaid line before now old new
said line before now old new (Ok v) put part cause = record { whole = λ calm. put; part = puts_all_part line old new put }
said line before now old new (Err e) put part cause = let rose = cause.failed in record { whole = λ calm. absurd (omega arith); part = part }

-- a status that refuses no line of a file
pub record IsNoLine (ended : Status) : Type 0 where
  pub data_file : ended ≡ BadData → ⊥
  pub stimulus : ended ≡ BadStimulus → ⊥

-- want of memory and bad words refuse no line
pub want_is_no_line : IsNoLine NoMemory
want_is_no_line = record { data_file = λ is. absurd (cc); stimulus = λ is. absurd (cc) }

pub words_are_no_line : IsNoLine BadWords
words_are_no_line = record { data_file = λ is. absurd (cc); stimulus = λ is. absurd (cc) }

-- such a status spares nothing
pub spares_nothing : (task : Option Task) (ended : Status) (rest : Option (List ℕ)) (told : Option Names)
    → IsNoLine ended → IfSome told (TaskSpares task ended rest)
spares_nothing task ended rest None other = tt
spares_nothing None ended rest (Some held) other = tt
spares_nothing (Some (checking names)) ended rest (Some held) other = tt
spares_nothing (Some (simulating asked)) ended rest (Some held) other = λ bad. absurd (other.stimulus bad)
spares_nothing (Some (covering asked)) ended rest (Some held) other = λ bad. absurd (other.data_file bad)

-- a check refuses no line of a data file
pub check_spares : (names : List (List ℕ)) (ended : Status) (rest : Option (List ℕ)) (told : Option Names)
    → IfSome told (TaskSpares (Some (checking names)) ended rest)
check_spares names ended rest None = tt
check_spares names ended rest (Some held) = tt

-- what the words ask for spares what their task does
pub words_spare : (words : List (List ℕ)) (task : Option Task) (ended : Status) (rest : Option (List ℕ)) (told : Option Names) → task ≡ task_of words
    → IfSome told (TaskSpares task ended rest) → IfSome told (TaskSpares (task_of words) ended rest)
words_spare words task ended rest told same is = subst (λ (t : Option Task). IfSome told (TaskSpares t ended rest)) same is
