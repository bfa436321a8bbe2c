use Rattle.flat_constants.proofs.Copies.{of_copy}
use Rattle.flat_constants.proofs.Values.{right_copy}
use Rattle.flat_constants.proofs.value.fixed_value.Goals as goal

pub returns-in-Ok : goal.returns-in-Ok
returns-in-Ok c = λ vars h.
    c.of_copy.ensures _ (right_copy vars c.args.expr.now _ (of_copy c.args.expr.now c.copy.result _ c.in-Ok.is c.copy.ensures) h)
