use Rattle.std.proofs.Common.{◌≡◌, ◌++◌, drop}
use Rattle.std.specs.List.{flat_map}
use Rattle.cvd_write.specs.Writing.{point_row}
use Rattle.cvd_write.proofs.section.all_points.Given as goal

abbrev pub invariant-loop-one : goal.invariant-loop-one
invariant-loop-one l = l.out ++ flat_map point_row (drop l.one-index l.things) ≡ l.initial.out ++ flat_map point_row l.things
