use Rattle.std.proofs.Common.{◌+◌, ◌*◌, ◌≤◌, length}
use Rattle.cvd_nodes.proofs.Goes.{Goes}
use Rattle.cvd_nodes.proofs.nodes.read_nodes.Given as goal

abbrev pub invariant-loop-pending : goal.invariant-loop-pending
invariant-loop-pending l = record {
  goes : Goes l.initial.cursor l.cursor l.pending l.whole l.kept;
  room : l.pending + 2 * length l.cursor.rest ≤ 1 + 2 * length l.initial.cursor.rest;
}

abbrev pub decreases-loop-pending : goal.decreases-loop-pending
decreases-loop-pending l = length l.cursor.rest
