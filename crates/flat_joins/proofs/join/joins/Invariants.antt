use Rattle.std.proofs.Common.{◌≡◌, map, take}
use Rattle.std.specs.List.{filter_map}
use Rattle.scope_meaning.specs.Overrides as spec
use Rattle.flat_source_meaning.specs.Clocks.{port_names}
use Rattle.flat_source_meaning.specs.Joins as form
use Rattle.flat_joins.specs.Seen.{join_seen}
use Rattle.flat_joins.proofs.join.joins.Given as goal

abbrev pub invariant-loop-port : goal.invariant-loop-port
invariant-loop-port l =
    map join_seen l.joined.items ≡ filter_map (form.join_at (spec.pairs (port_names l.fn.of.ports) l.fn.conns)) (take l.port-index l.fn.of.ports)
