use Rattle.std.proofs.Common.{◌≡◌, ◌++◌, map, take}
use Rattle.std.specs.List.{flat_map}
use Rattle.scope_meaning.specs.Declared as spec
use Rattle.flat_declared.specs.Kinds.{seen}
use Rattle.flat_declared.proofs.declared.+declared.Given as goal

abbrev pub invariant-with_items-loop-item : goal.invariant-with_items-loop-item
invariant-with_items-loop-item l = l.all ≡ l.fn.before ++ map seen (flat_map spec.declares (take l.item-index l.items))
