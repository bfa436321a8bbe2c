use Rattle.flow_hubs.specs.Adding.{Adds}
use Rattle.flow_edges.proofs.Linked.{Each}
use Rattle.flow_edges.proofs.links.link_each.Given as goal

abbrev pub invariant-loop-p : goal.invariant-loop-p
invariant-loop-p l = Adds l.initial.next.items l.next.items (Each l.design l.from l.q l.p-index)
