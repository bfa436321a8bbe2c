use Rattle.std.proofs.Common.{◌≡◌}
use Rattle.flow_hubs.specs.Adding.{Adds}
use Rattle.flow_edges.specs.Stretches.{IsAmong}
use Rattle.flow_edges.proofs.lists.note_all.Given as goal

abbrev pub invariant-loop-at : goal.invariant-loop-at
invariant-loop-at l = Adds l.initial.rows l.rows (λ i x. IsAmong (record { from = l.fn.among.from; to = l.at }) i × (x ≡ l.number))
