use Rattle.std.proofs.Common.{◌≡◌, map, take}
use Rattle.cycle_wakes.specs.Targets.{named_by}
use Rattle.cycle_wakes.proofs.targets.all_targets.Given as goal

abbrev pub invariant-loop-one : goal.invariant-loop-one
invariant-loop-one l = l.targets.items ≡ map named_by (take l.one-index l.uses)
