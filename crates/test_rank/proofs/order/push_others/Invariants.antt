use Rattle.std.proofs.Common.{◌≡◌, drop, ◌++◌}
use Rattle.test_rank.specs.Choosing.{unchosen_rows}
use Rattle.test_rank.specs.Counting.{marked}
use Rattle.test_rank.proofs.order.push_others.Given as goal

abbrev pub invariant-tests : goal.invariant-tests
invariant-tests l = l.rows ++ unchosen_rows l.covers (marked l.chosen) l.test (drop l.test l.covers) ≡ l.initial.rows
    ++ unchosen_rows l.covers (marked l.chosen) 0 l.covers
