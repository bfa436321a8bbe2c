use Rattle.std.proofs.Common.{arith, ◌<◌, length, below_more}
use Rattle.flow_graph.proofs.Turned.{circle_inside}
use Rattle.flow_graph.proofs.answer.least_circle.Goals as goal

pub loop-p-preserved : goal.loop-p-preserved
loop-p-preserved c = let h = rw c.in_default.is at c.in_ok-circle.ensures in
    below_more _ _ c.loop-p.invariant h.none

pub unreachable-requires : goal.unreachable-requires
unreachable-requires c = c.loop-p.invariant c.requires.some.0
    (let i : c.requires.some.0 < length c.args.next.now = circle_inside c.args.next.now c.requires.some.0 c.requires.some.1 in omega arith) c.requires.some.1
