use Rattle.std.proofs.Common.{take}
use Rattle.test_rank.specs.Counting.{HasAdded}
use Rattle.test_rank.proofs.point_index.PointIndex.add_all.Given as goal

abbrev pub invariant-points : goal.invariant-points
invariant-points l = HasAdded l.test (take l.point-index l.points) l.initial.self l.self
