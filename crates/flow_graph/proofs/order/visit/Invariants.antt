use Rattle.flow_graph.proofs.Walking.{Visiting, sort_work}
use Rattle.flow_graph.proofs.order.visit.Given as goal

abbrev pub invariant-visit : goal.invariant-visit
invariant-visit l = Visiting l.next l.root l.fn.post.items l.path.items l.cursor.items l.marks.items l.post.items

abbrev pub decreases-visit : goal.decreases-visit
decreases-visit l = sort_work l.next l.path.items l.cursor.items l.marks.items
