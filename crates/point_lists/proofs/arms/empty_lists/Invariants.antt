use Rattle.std.proofs.Common.{◌≡◌, ℕ, [], length}
use Rattle.row_lists.specs.Lists.{list_at}
use Rattle.point_lists.proofs.arms.empty_lists.Given as goal

abbrev pub invariant-loop-number : goal.invariant-loop-number
invariant-loop-number l = record {
  many : length l.lists ≡ l._number;
  empty : (k : ℕ) → list_at l.lists k ≡ [];
}
