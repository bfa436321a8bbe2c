use Rattle.std.proofs.Common.{◌≡◌, ℕ, List, Some, true}
use Rattle.flat_reach.specs.Reach.{has, IsSound}
use Rattle.flat_reach.proofs.reach.reached.Given as goal

abbrev pub invariant-loop-turn : goal.invariant-loop-turn
invariant-loop-turn l = record {
  there : (q : List ℕ) → l.first ≡ Some q → has l.table 0 q ≡ true;
  sound : IsSound l.first l.handings l.table;
}
