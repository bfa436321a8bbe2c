use Rattle.std.proofs.Common.{◌≡◌, drop}
use Rattle.design_meaning.specs.Steps.{all_do}
use Rattle.flat_design.specs.Effects.{added}
use Rattle.flat_design.specs.InDesign.{CanRun}
use Rattle.flat_design.proofs.run.+run.Given as goal

abbrev pub invariant-run_steps-loop-step : goal.invariant-run_steps-loop-step
invariant-run_steps-loop-step l =
    let left = drop l.step-index l.steps in
    record {
      state : (all_do left l.state).state ≡ (all_do l.steps l.fn.state).state;
      effects : added l.effects (all_do left l.state) ≡ added l.fn.effects (all_do l.steps l.fn.state);
      can : CanRun l.state l.effects left;
    }
