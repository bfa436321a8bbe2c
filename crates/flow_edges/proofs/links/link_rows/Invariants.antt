use Rattle.flow_hubs.specs.Adding.{Adds}
use Rattle.flow_edges.proofs.Linked.{InRows}
use Rattle.flow_edges.proofs.links.link_rows.Given as goal

abbrev pub invariant-loop-at : goal.invariant-loop-at
invariant-loop-at l = Adds l.initial.next.items l.next.items (InRows l.design l.rows l.fn.among.from l.at l.q)
