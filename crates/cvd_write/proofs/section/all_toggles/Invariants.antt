use Rattle.std.proofs.Common.{◌≡◌, ◌++◌, drop}
use Rattle.std.specs.List.{flat_map}
use Rattle.cvd_write.specs.Writing.{toggle_row}
use Rattle.cvd_write.proofs.section.all_toggles.Given as goal

abbrev pub invariant-loop-one : goal.invariant-loop-one
invariant-loop-one l = l.out ++ flat_map toggle_row (drop l.one-index l.things) ≡ l.initial.out ++ flat_map toggle_row l.things
