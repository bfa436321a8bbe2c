use Rattle.lower_nodes.proofs.PartChains.{joined_turn, joined_end}
use Rattle.lower_nodes.proofs.braces.join_onto.Goals as goal

pub loop-next-preserved : goal.loop-next-preserved
loop-next-preserved c = joined_turn c.loop-next.before c.pop.new.self c.in-Some.next c.loop-next.all _ _ c.in-Some.ensures c.in_ok-all.ensures c.loop-next.invariant

pub returns : goal.returns
returns c = joined_end c.loop-next.before c.loop-next.all _ c.in_default.ensures.0 c.loop-next.invariant
