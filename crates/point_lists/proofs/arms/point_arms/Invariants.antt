use Rattle.std.proofs.Common.{◌≡◌, ℕ, length, take}
use Rattle.row_lists.specs.Lists.{list_at}
use Rattle.point_lists.specs.Arms.{arms_of}
use Rattle.point_lists.proofs.arms.point_arms.Given as goal

abbrev pub invariant-loop-arm : goal.invariant-loop-arm
invariant-loop-arm l = record {
  many : length l.lists ≡ l.count;
  arms : (k : ℕ) → list_at l.lists k ≡ arms_of (take l.arm l.points) k;
}
