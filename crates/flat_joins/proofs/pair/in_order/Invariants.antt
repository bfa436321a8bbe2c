use Rattle.std.proofs.Common.{◌≡◌, map, take}
use Rattle.scope_meaning.specs.Overrides as spec
use Rattle.flat_source_meaning.specs.Clocks.{port_names}
use Rattle.flat_joins.specs.Seen.{pair_seen}
use Rattle.flat_joins.proofs.pair.in_order.Given as goal

abbrev pub invariant-loop-at : goal.invariant-loop-at
invariant-loop-at l = map pair_seen l.all.items ≡ spec.in_order (port_names (take l.at l.ports)) (take l.at l.exprs)
