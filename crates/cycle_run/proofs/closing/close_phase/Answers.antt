use Rattle.std.proofs.Common.{sym, subst}
use Rattle.design_meaning.specs.States.{IsStateOf}
use Rattle.design_meaning.proofs.StateKeeps.{all_keep_state}
use Rattle.cycle_run.proofs.closing.close_phase.Goals as goal

pub returns-clause-of_design : goal.returns-clause-of_design
returns-clause-of_design g c =
    let d = c.args.design.now in
    subst (IsStateOf d) (sym c.apply.ensures.state) (all_keep_state d c.run_phase.new.effects.updates c.run_phase.new.now c.run_phase.ensures.of_design)
