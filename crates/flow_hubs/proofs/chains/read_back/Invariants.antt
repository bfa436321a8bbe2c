use Rattle.std.proofs.Common.{◌≡◌, ◌≤◌, ◌++◌, length}
use Rattle.flow_hubs.specs.Chained.{row_from}
use Rattle.flow_hubs.proofs.chains.read_back.Given as goal

abbrev pub invariant-links : goal.invariant-links
invariant-links l = record {
  inside : l.at ≤ length l.links;
  whole : l.row.items ++ row_from l.links l.at ≡ l.initial.row.items ++ row_from l.links l.head;
}

abbrev pub decreases-links : goal.decreases-links
decreases-links l = l.at
