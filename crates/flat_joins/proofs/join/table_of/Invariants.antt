use Rattle.std.proofs.Common.{map, take}
use Rattle.flat_joins.specs.Seen.{pair_seen, IsTableOf}
use Rattle.flat_joins.proofs.join.table_of.Given as goal

abbrev pub invariant-loop-pair : goal.invariant-loop-pair
invariant-loop-pair l = IsTableOf (map pair_seen (take l.pair-index l.fn.all)) l.table
