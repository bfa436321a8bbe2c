-- What a `sim` promises for its words alone.
use Rattle.std.specs.Prelude.{◌≡◌, ◌⊎◌, ℕ, true, List, []}
use Rattle.cov_types.specs.declared.limit.LimitName.TheVariants.{CvdBytes}
use Rattle.sim_answer.specs.Simulation.{Simulation}
use Rattle.design_meaning.specs.FlowFaults.{Fault}
use Rattle.cvd_text.specs.Fault.{Flaw}
use Rattle.stim_lines.specs.Reading.{is_of_text}
use Rattle.stim_lines.specs.declared.fault.StimFault.{StimFault}
use Rattle.command_ending.specs.ErrorLines.{limit_line, stopped_line}
use Rattle.command_ending.specs.Promise.{Promise}
use Rattle.command_ending.specs.declared.status.Status.{Status}
use Rattle.command_ending.specs.declared.status.Status.TheVariants.{Limit, Stopped}
use Rattle.sim_answer.specs.Refusals.{design_refusal, stimulus_refusal}
use Rattle.sim_answer.specs.SimAnswer.{IsSimAnswer}

-- A `sim` may end so: its design or its stimulus is refused, or `$stop` is executed.
pub data SimRefuses (asked : Simulation) : Status → List ℕ → Type 0 where
  too_long : SimRefuses asked Limit (limit_line CvdBytes)
  in_design : (flaw : Flaw Fault) → SimRefuses asked (design_refusal asked.design flaw).status (design_refusal asked.design flaw).line
  in_stimulus : (flaw : StimFault) → is_of_text flaw ≡ true
      → SimRefuses asked (stimulus_refusal [] asked.stimulus flaw).status (stimulus_refusal [] asked.stimulus flaw).line
  by_stop : SimRefuses asked Stopped stopped_line

-- A `sim` answers, is refused, and reads and stores so. It prints while it reads its stimulus.
abbrev pub sim_promise : Simulation → Promise
sim_promise asked = record {
  Answers = λ held answer. IsSimAnswer held asked answer;
  Refuses = SimRefuses asked;
  Reads = λ name. (name ≡ asked.design) ⊎ (name ≡ asked.stimulus);
  Stores = λ name. name ≡ asked.data_name;
  prints_early = true;
}
