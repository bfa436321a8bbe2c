use Rattle.flow_graph.proofs.Walking.{Listing}
use Rattle.flow_graph.proofs.order.list_all.Given as goal

abbrev pub invariant-loop-root : goal.invariant-loop-root
invariant-loop-root l = Listing l.next l.root l.cursor.items l.marks.items l.post.items
