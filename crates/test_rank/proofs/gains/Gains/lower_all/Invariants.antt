use Rattle.std.proofs.Common.{◌≡◌, ℕ, ◌+◌, length, get_or, take}
use Rattle.test_rank.specs.Counting.{count, total}
use Rattle.test_rank.proofs.gains.Gains.lower_all.Given as goal

abbrev pub invariant-tests : goal.invariant-tests
invariant-tests g l = record {
  lowered : (t : ℕ) → get_or l.self t 0 + count t (take l.test-index l.tests) ≡ get_or l.initial.self t 0;
  len : length l.self ≡ length l.initial.self;
  ticks : l.steps + total l.self ≡ l.initial.steps + total l.initial.self;
}
