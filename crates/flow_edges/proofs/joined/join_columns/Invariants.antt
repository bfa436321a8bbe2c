use Rattle.std.proofs.Common.{◌≡◌, ◌+◌, ◌≤◌, length}
use Rattle.flow_hubs.specs.Hubs.{IsClear, Stands}
use Rattle.flow_edges.specs.Linking.{LeadsBy}
use Rattle.flow_edges.proofs.joined.join_columns.Given as goal

abbrev pub invariant-loop-at : goal.invariant-loop-at
invariant-loop-at l = record {
  stands : Stands (length l.initial.next.items) (LeadsBy l.initial.next.items l.drivers l.readers l.selfish l.at) l.next.items;
  many : length l.marks.items ≡ length l.selfish;
  clear : IsClear l.marks.items;
  grown : length l.next.items ≤ length l.initial.next.items + l.at;
}
