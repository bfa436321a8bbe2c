use Rattle.std.proofs.Common.{◌≡◌, ◌+◌, length, take, map}
use Rattle.test_rank.proofs.gains.Gains.of.Given as goal

abbrev pub invariant-tests : goal.invariant-tests
invariant-tests g l = record {
  all : l.gains.items ≡ map (λ points. length points) (take l.test l.covers);
  ticks : l.steps ≡ l.initial.steps + l.test;
}
