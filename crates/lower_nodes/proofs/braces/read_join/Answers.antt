use Rattle.lower_nodes.proofs.Whole.{join_gives, join_fails}
use Rattle.lower_nodes.proofs.braces.read_join.Goals as goal

pub returns-in-Ok : goal.returns-in-Ok
returns-in-Ok c = λ vars ps h k. join_gives vars ps c.args.parts _ c.join_all.result c.in-Ok.is h k c.join_all.ensures

pub returns-in-Err : goal.returns-in-Err
returns-in-Err c = λ vars ps h k. join_fails vars ps c.args.parts _ c.in-Err.is k
