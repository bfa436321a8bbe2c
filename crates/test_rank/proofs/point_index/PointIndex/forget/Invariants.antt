use Rattle.std.proofs.Common.{◌≡◌, ℕ, ◌<◌, ◌≤◌, length, filter, ltb}
use Rattle.test_rank.specs.Counting.{tests_at}
use Rattle.test_rank.proofs.point_index.PointIndex.forget.Given as goal

abbrev pub invariant-points : goal.invariant-points
invariant-points l = record {
  done : (p : ℕ) → p < l.point → tests_at l.self p ≡ filter (λ t. ltb t l.end) (tests_at l.initial.self p);
  rest : (p : ℕ) → l.point ≤ p → tests_at l.self p ≡ tests_at l.initial.self p;
  len : length l.self ≡ length l.initial.self;
}
