use Rattle.std.proofs.Common.{sym, subst}
use Rattle.design_meaning.specs.States.{IsStateOf}
use Rattle.design_state.proofs.LaidStarts.{start_is_state}
use Rattle.flat_design.proofs.effects.Effects.reserve.Goals as goal

pub design_needs-requires-clause-of_design : goal.design_needs-requires-clause-of_design
design_needs-requires-clause-of_design c = subst (IsStateOf c.args.design.now.design) (sym c.in_ok-state.ensures)
    (start_is_state c.args.design.now.design c.requires.variables)
