use Rattle.std.proofs.Common.{◌≡◌, map, take}
use Rattle.circuit_run.specs.Lists.{total}
use Rattle.scope_meaning.specs.Declared.{constructs}
use Rattle.elab_counts.proofs.scopes.+construct_count.Given as goal

abbrev pub invariant-constructs_in-loop-item : goal.invariant-constructs_in-loop-item
invariant-constructs_in-loop-item l = l.all ≡ total (map constructs (take l.item-index l.items))
