use Rattle.flat_fixed.proofs.Nodes.{const_right}
use Rattle.flat_fixed.proofs.fixed.is_constant.Goals as goal

pub returns-in-Ok : goal.returns-in-Ok
returns-in-Ok g c = const_right _ c.in-Ok.ensures.0

pub returns-in-Err : goal.returns-in-Err
returns-in-Err g c = c.of_fault.ensures _ c.in-Err.ensures
