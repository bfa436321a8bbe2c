use Rattle.std.proofs.Common.{◌≡◌, ◌++◌, drop}
use Rattle.std.specs.List.{flat_map}
use Rattle.cvd_write.specs.Writing.{input_row}
use Rattle.cvd_write.proofs.section.all_inputs.Given as goal

abbrev pub invariant-loop-one : goal.invariant-loop-one
invariant-loop-one l = l.out ++ flat_map input_row (drop l.one-index l.things) ≡ l.initial.out ++ flat_map input_row l.things
