use Rattle.flow_graph.proofs.Search.{Searching, work}
use Rattle.flow_graph.proofs.circle.circle_from.Given as goal

abbrev pub invariant-search : goal.invariant-search
invariant-search l = Searching l.next l.p l.path.items l.cursor.items l.seen.items

abbrev pub decreases-search : goal.decreases-search
decreases-search l = work l.next l.path.items l.cursor.items
