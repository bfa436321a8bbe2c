-- How much is taken of a stimulus that is refused at a line (docs/commands.md, "sim").
use Rattle.std.specs.Prelude.{◌≡◌, ℕ, List, Option, Some, Result, Ok, Err, IfSome}
use Rattle.cov_port.specs.Files.{Names}
use Rattle.design_tree.specs.declared.instrumented.Instrumented.{Instrumented}
use Rattle.stim_lines.specs.Header.{inputs_of}
use Rattle.stim_lines.specs.Reading.{line_of}
use Rattle.stim_lines.specs.Stimulus.{stimulus_of}
use Rattle.stim_lines.specs.declared.fault.StimFault.{StimFault}
use Rattle.stim_lines.specs.declared.row.StimText.{StimText}
use Rattle.stimulus.specs.Lines.{IsFrugal}
use Rattle.command_ending.specs.declared.status.Status.{Status}
use Rattle.command_ending.specs.declared.status.Status.TheVariants.{BadStimulus}
use Rattle.sim_answer.specs.Simulation.{Simulation}
use Rattle.sim_answer.specs.SimAnswer.{HoldsDesign}

-- the fault of a stimulus: at or before its header, or behind its rows
abbrev pub fault_of : Result StimText StimFault → Option StimFault
fault_of (Err flaw) = Some flaw
fault_of (Ok stim) = stim.fault

-- Of the stimulus no more was taken than the lines before the refused one, and 65,536 bytes. A stimulus without header line is refused for no line of it.
pub record TakesFew (held : Names) (asked : Simulation) (rest : Option (List ℕ)) : Type 0 where
  pub design : Instrumented
  pub text : List ℕ
  pub flaw : StimFault
  pub holds_design : HoldsDesign held asked.design design
  pub holds : held asked.stimulus ≡ Some text
  pub is_refused : fault_of (stimulus_of (inputs_of design.design) text) ≡ Some flaw
  pub few : IfSome (line_of flaw) (λ n. IsFrugal text rest n)

-- where a stimulus is refused, so much is taken of it
abbrev pub SimSpares : Simulation → Status → Option (List ℕ) → Names → Type 0
SimSpares asked ended rest held = ended ≡ BadStimulus → TakesFew held asked rest
