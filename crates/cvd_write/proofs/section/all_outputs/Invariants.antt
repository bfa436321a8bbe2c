use Rattle.std.proofs.Common.{◌≡◌, ◌++◌, drop}
use Rattle.std.specs.List.{flat_map}
use Rattle.cvd_write.specs.Writing.{output_row}
use Rattle.cvd_write.proofs.section.all_outputs.Given as goal

abbrev pub invariant-loop-one : goal.invariant-loop-one
invariant-loop-one l = l.out ++ flat_map output_row (drop l.one-index l.things) ≡ l.initial.out ++ flat_map output_row l.things
