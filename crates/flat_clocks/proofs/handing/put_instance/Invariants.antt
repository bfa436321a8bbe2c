use Rattle.std.proofs.Common.{◌≡◌, ◌++◌, map, take}
use Rattle.std.specs.List.{filter_map}
use Rattle.flat_joins.specs.Seen.{pair_seen}
use Rattle.flat_clocks.specs.Handings as spec
use Rattle.flat_clocks.proofs.handing.put_instance.Given as goal

abbrev pub invariant-loop-pair : goal.invariant-loop-pair
invariant-loop-pair l =
    l.all.items ≡ l.initial.all.items
    ++ filter_map (spec.handing_of l.making.scopes.now.scopes.items l.making.at l.making.makes l.fn.of.ports) (map pair_seen (take l.pair-index l.pair-items))
