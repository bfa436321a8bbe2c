use Rattle.std.proofs.Common.{◌≡◌, drop, ◌++◌}
use Rattle.test_rank.specs.Choosing.{picked_rows}
use Rattle.test_rank.proofs.order.push_picked.Given as goal

abbrev pub invariant-picks : goal.invariant-picks
invariant-picks l = l.rows ++ picked_rows l.covers (drop l.at l.picks) ≡ l.initial.rows ++ picked_rows l.covers l.picks
