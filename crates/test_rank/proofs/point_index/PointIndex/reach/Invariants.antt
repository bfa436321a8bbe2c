use Rattle.std.proofs.Common.{◌≡◌, ℕ, ◌+◌, ◌-◌, length}
use Rattle.test_rank.specs.Counting.{tests_at}
use Rattle.test_rank.proofs.point_index.PointIndex.reach.Given as goal

abbrev pub invariant-lists : goal.invariant-lists
invariant-lists l = (p : ℕ) → tests_at l.self p ≡ tests_at l.initial.self p

abbrev pub decreases-lists : goal.decreases-lists
decreases-lists l = l.point + 1 - length l.self
