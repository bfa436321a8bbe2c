use Rattle.std.proofs.Common.{◌≡◌, ◌++◌, drop}
use Rattle.std.specs.List.{flat_map}
use Rattle.cvd_write.specs.Writing.{item_row}
use Rattle.cvd_write.proofs.step.all_items.Given as goal

abbrev pub invariant-loop-one : goal.invariant-loop-one
invariant-loop-one l = l.out ++ flat_map item_row (drop l.one-index l.items) ≡ l.initial.out ++ flat_map item_row l.items
