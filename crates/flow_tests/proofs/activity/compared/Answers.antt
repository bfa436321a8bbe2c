use Rattle.std.proofs.Common.{sym, subst}
use Rattle.design_meaning.specs.States.{IsStateOf}
use Rattle.design_state.proofs.LaidStarts.{start_is_state}
use Rattle.flow_uses.proofs.Whole.{variables_of}
use Rattle.flow_tests.proofs.activity.compared.Goals as goal

pub set_bit-requires-clause-of_design : goal.set_bit-requires-clause-of_design
set_bit-requires-clause-of_design c =
    let d = c.args.design.now in
    subst (IsStateOf d) (sym c.in_ok-now.ensures) (start_is_state d (variables_of d c.requires.valid))

pub is_active-requires-clause-before : goal.is_active-requires-clause-before
is_active-requires-clause-before c =
    let d = c.args.design.now in
    subst (IsStateOf d) (sym c.in_ok-before.ensures) (start_is_state d (variables_of d c.requires.valid))
