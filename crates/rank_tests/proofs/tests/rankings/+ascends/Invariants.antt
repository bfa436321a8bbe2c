use Rattle.std.proofs.Common.{length}
use Rattle.rank_tests.proofs.tests.rankings.+ascends.Given as goal

abbrev pub decreases-ascends : goal.decreases-ascends
decreases-ascends l = length l.points.now
