use Rattle.std.proofs.Common.{◌≡◌, ◌+◌, map, take}
use Rattle.circuit_run.specs.Lists.{total}
use Rattle.scope_meaning.specs.Declared.{count}
use Rattle.elab_counts.proofs.Counts.{in_arm}
use Rattle.elab_counts.proofs.items.+item_count.Given as goal

abbrev pub invariant-count_items-loop-item : goal.invariant-count_items-loop-item
invariant-count_items-loop-item l = l.all ≡ l.fn.before + total (map count (take l.item-index l.items))

abbrev pub invariant-count_arms-loop-arm : goal.invariant-count_arms-loop-arm
invariant-count_arms-loop-arm l = l.all ≡ 1 + total (map in_arm (take l.arm-index l.arms))
