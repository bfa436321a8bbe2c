use Rattle.std.proofs.Common.{◌≡◌, ◌++◌, take}
use Rattle.std.specs.List.{flat_map}
use Rattle.scope_meaning.specs.Overrides as spec
use Rattle.elab_overrides.proofs.parameters.+parameters.Given as goal

abbrev pub invariant-with_items-loop-item : goal.invariant-with_items-loop-item
invariant-with_items-loop-item l = l.all ≡ l.fn.names ++ flat_map spec.parameters_of (take l.item-index l.items)
