use Rattle.std.proofs.Common.{◌≡◌, length}
use Rattle.lower_nodes.specs.Joins.{joined_onto}
use Rattle.lower_nodes.proofs.braces.join_onto.Given as goal

abbrev pub invariant-loop-next : goal.invariant-loop-next
invariant-loop-next l = joined_onto l.before l.all ≡ joined_onto l.fn.before l.fn.last

abbrev pub decreases-loop-next : goal.decreases-loop-next
decreases-loop-next l = length l.before
