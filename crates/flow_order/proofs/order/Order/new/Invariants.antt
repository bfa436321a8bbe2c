use Rattle.flow_order.proofs.Keeping.{AreKept}
use Rattle.flow_order.proofs.order.Order.new.Given as goal

abbrev pub invariant-loop-at : goal.invariant-loop-at
invariant-loop-at l = AreKept l.design l.uses l.reads.items l.at
