use Rattle.std.proofs.Common.{◌≡◌, ℕ, ◌<◌, ◌-◌, Bool, ◌++◌, length, filter, Option, None, Some}
use Rattle.report_table.specs.Chains.{first_at, IsLinked}
use Rattle.report_table.specs.declared.data_point.DataPoint.{DataPoint}
use Rattle.report_table.proofs.ChainLemmas.{from_place, IsPlace}
use Rattle.report_table.proofs.follow.follow.Given as goal

abbrev left_of : ℕ → Option ℕ → ℕ
left_of n None = 0
left_of n (Some k) = n - k

abbrev pub invariant-chain : goal.invariant-chain
invariant-chain l = record {
  within : (k : ℕ) → l.at ≡ Some k → k < length l.points;
  so_far : (p : DataPoint → Bool) → IsLinked p l.points l.next 0 → first_at p l.points 0 ≡ Some l.first
      → (l.group.items ++ from_place p l.points l.at ≡ filter p l.points) × IsPlace p l.points l.at;
}

abbrev pub decreases-chain : goal.decreases-chain
decreases-chain l = left_of (length l.points) l.at
