-- How the run of a design ends.
use Rattle.std.proofs.Common.{◌≡◌, ◌∙◌, sym, ap, ℕ, List, Option, None}
use Rattle.std.specs.Prelude.{IfSome}
use Rattle.circuit_run.specs.Ends.{End, goes}
use Rattle.cycle_run.specs.Ends.{end_seen}
use Rattle.cycle_run.specs.declared.end.CycleEnd.{CycleEnd}
use Rattle.cycle_run.specs.declared.end.CycleEnd.TheVariants.{Goes, Finished, Stopped}
use Rattle.stim_lines.specs.declared.row.StimText.{StimText}
use Rattle.command_ending.specs.Ending.{status_at}
use Rattle.command_ending.specs.declared.ending.Ending.{Ending}
use Rattle.command_ending.specs.declared.ending.Ending.TheVariants as ending
use Rattle.command_ending.specs.declared.status.Status.TheVariants.{BadStimulus, Fault}
use Rattle.sim_run.specs.Ends.{IsWhole}

-- a run that goes on is at the end of its stimulus
pub whole_told : (end : CycleEnd) (told : Option StimText) → IsWhole end told → end_seen end ≡ goes → IfSome told (λ stim. stim.fault ≡ None)
whole_told Goes told whole same = whole
whole_told Finished told whole same = absurd (cc)
whole_told Stopped told whole same = absurd (cc)

-- a fault refuses no stimulus
pub fault_is_other : (e : Ending) (line : List ℕ) → e ≡ ending.Refused Fault line → status_at e ≡ BadStimulus → ⊥
fault_is_other e line same bad = let one : Fault ≡ BadStimulus = sym (ap status_at same) ∙ bad in absurd (cc)
