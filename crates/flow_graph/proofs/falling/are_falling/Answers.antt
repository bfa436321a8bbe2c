use Rattle.std.proofs.Common.{arith}
use Rattle.flow_graph.proofs.Descent.{fall_all}
use Rattle.flow_graph.proofs.falling.are_falling.Goals as goal

pub returns : goal.returns
returns c = λ _. fall_all c.args.next.now c.args.levels.now c.loop-x.x (omega (arith, c.loop-x-test.false)) c.loop-x.invariant
