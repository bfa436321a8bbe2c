use Rattle.std.proofs.Common.{◌≡◌, map, take}
use Rattle.std.specs.List.{filter_map}
use Rattle.scope_meaning.specs.Overrides as spec
use Rattle.flat_joins.specs.Seen.{pair_seen}
use Rattle.flat_joins.proofs.pair.by_name.Given as goal

abbrev pub invariant-loop-conn : goal.invariant-loop-conn
invariant-loop-conn l = map pair_seen l.all.items ≡ filter_map spec.with_value (take l.conn-index l.conns)
