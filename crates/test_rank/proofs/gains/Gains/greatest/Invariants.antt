use Rattle.std.proofs.Common.{◌≡◌, ℕ, ◌+◌, ◌<◌, ◌≤◌, length, get_or}
use Rattle.test_rank.proofs.gains.Gains.greatest.Given as goal

abbrev pub invariant-tests : goal.invariant-tests
invariant-tests g l = record {
  given : l.best < l.test;
  within : l.test ≤ length l.self;
  most : (t : ℕ) → t < l.test → get_or l.self t 0 ≤ get_or l.self l.best 0;
  earliest : (t : ℕ) → t < l.best → get_or l.self t 0 < get_or l.self l.best 0;
  ticks : l.steps + 1 ≡ l.initial.steps + l.test;
}
