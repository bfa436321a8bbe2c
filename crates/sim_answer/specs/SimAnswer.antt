-- The answer to a `sim` (docs/commands.md, "sim").
use Rattle.std.specs.Prelude.{◌≡◌, ℕ, ◌<◌, ◌≤◌, List, [], ◌∷◌, length, map, Option, None, Some, Ok, Err}
use Rattle.cov_types.specs.Limits.{most}
use Rattle.cov_types.specs.declared.limit.LimitName.TheVariants.{CvdBytes}
use Rattle.cov_port.specs.Files.{Names}
use Rattle.cov_dat.specs.DataText.{count_map, data_text}
use Rattle.sim_answer.specs.Simulation.{Simulation}
use Rattle.design_tree.specs.declared.instrumented.Instrumented.{Instrumented}
use Rattle.circuit_run.specs.Ends.{End, goes, finished, stopped}
use Rattle.design_meaning.specs.FlowFaults.{Fault, Flows, IsFaultOf}
use Rattle.design_meaning.specs.Runs.{IsRun, each_cycle, point_counts}
use Rattle.cvd_text.specs.Fault.{Flaw, IsFlaw}
use Rattle.cvd_text.specs.Spelling.{Cvd}
use Rattle.stim_lines.specs.Header.{inputs_of}
use Rattle.stim_lines.specs.Stimulus.{stimulus_of}
use Rattle.stim_lines.specs.declared.fault.StimFault.{StimFault}
use Rattle.stim_lines.specs.declared.row.Row.{Row}
use Rattle.stim_lines.specs.declared.row.StimText.{StimText}
use Rattle.command_ending.specs.Answer.{Answer, absent, done, over_limit}
use Rattle.command_ending.specs.ErrorLines.{stopped_line}
use Rattle.command_ending.specs.declared.status.Status.TheVariants.{Stopped}
use Rattle.sim_answer.specs.Refusals.{design_refusal, stimulus_refusal}

-- ---- the data file

-- the data file of the points, where the counters are these at the end of the run
abbrev pub data_store : Simulation → Instrumented → List ℕ → List ℕ × List ℕ
data_store asked x counts = (asked.data_name, data_text (count_map (point_counts x asked.count_bits counts)))

-- ---- how a run ends

-- the values of the inputs, cycle by cycle: those of each row as often as it repeats
abbrev pub values_of : List Row → List (List ℕ)
values_of rows = each_cycle (map (λ (r : Row). (r.values, r.repeat)) rows)

-- a run that executed `$stop` stores its data file too
abbrev pub stopped_with : List ℕ → List (List ℕ × List ℕ) → Answer
stopped_with out stores = record { status = Stopped; out = out; line = stopped_line; stores = stores }

-- a run in which no flag was set is done at the end of the stimulus, or is refused for its fault
abbrev pub behind_rows : Simulation → Instrumented → Option StimFault → List ℕ → List ℕ → Answer
behind_rows asked x None text counts = done text (data_store asked x counts ∷ [])
behind_rows asked x (Some flaw) text counts = stimulus_refusal text asked.stimulus flaw

-- What a run comes to that printed this text. Behind a flag the stimulus isn't read on, so its fault doesn't matter.
abbrev pub run_answer : Simulation → Instrumented → Option StimFault → List ℕ → End → List ℕ → Answer
run_answer asked x flaw text goes counts = behind_rows asked x flaw text counts
run_answer asked x flaw text finished counts = done text (data_store asked x counts ∷ [])
run_answer asked x flaw text stopped counts = stopped_with text (data_store asked x counts ∷ [])

-- ---- the whole

-- The name holds the text of this design, which flows.
pub record HoldsDesign (held : Names) (name : List ℕ) (x : Instrumented) : Type 0 where
  pub text : List ℕ
  pub holds : held name ≡ Some text
  pub within : length text ≤ most CvdBytes
  pub spelled : Cvd x text
  pub flows : Flows x.design

-- This is the answer to a `sim`.
pub data IsSimAnswer (held : Names) (asked : Simulation) : Answer → Type 0 where
  -- The design comes first.
  no_design : held asked.design ≡ None → IsSimAnswer held asked (absent asked.design)
  too_long : (text : List ℕ) → held asked.design ≡ Some text → most CvdBytes < length text → IsSimAnswer held asked (over_limit CvdBytes)
  bad_design : (text : List ℕ) (flaw : Flaw Fault) → held asked.design ≡ Some text → length text ≤ most CvdBytes
      → IsFlaw Fault IsFaultOf text flaw → IsSimAnswer held asked (design_refusal asked.design flaw)
  no_stimulus : (x : Instrumented) → HoldsDesign held asked.design x → held asked.stimulus ≡ None → IsSimAnswer held asked (absent asked.stimulus)
  -- The header is refused before anything is run.
  bad_header : (x : Instrumented) (text : List ℕ) (flaw : StimFault) → HoldsDesign held asked.design x → held asked.stimulus ≡ Some text
      → stimulus_of (inputs_of x.design) text ≡ Err flaw → IsSimAnswer held asked (stimulus_refusal [] asked.stimulus flaw)
  -- The design runs on the rows before the first bad line.
  ran : (x : Instrumented) (text : List ℕ) (stim : StimText) (out : List ℕ) (end : End) (counts : List ℕ)
      → HoldsDesign held asked.design x → held asked.stimulus ≡ Some text → stimulus_of (inputs_of x.design) text ≡ Ok stim
      → IsRun x (values_of stim.rows) out end counts → IsSimAnswer held asked (run_answer asked x stim.fault out end counts)
