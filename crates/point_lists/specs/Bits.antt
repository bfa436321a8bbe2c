-- The counters of the bits of points.
use Rattle.std.specs.Prelude.{◌≡◌, ℕ, ◌+◌, ◌<◌, ◌≤◌, ◌==◌, true, false, List, length, Option, Some, None}
use Rattle.std.specs.List.{list_any}
use Rattle.cov_points.specs.declared.table.TogglePoint.{TogglePoint}
use Rattle.mark_numbers.specs.Numbers.{number_at}

-- Each point with bits has a counter of its own, from the first number on, at most one for each bit; no other point has one.
pub record AreBitCounters (toggles : List TogglePoint) (first next : ℕ) (numbers : List (Option ℕ)) : Type 0 where
  pub given : (k : ℕ) → list_any (λ t. t.point == k) toggles ≡ true → (c : ℕ) × (number_at numbers k ≡ Some c)
  pub none : (k : ℕ) → list_any (λ t. t.point == k) toggles ≡ false → number_at numbers k ≡ None
  pub within : (k c : ℕ) → number_at numbers k ≡ Some c → (first ≤ c) × (c < next)
  pub apart : (j k c : ℕ) → number_at numbers j ≡ Some c → number_at numbers k ≡ Some c → j ≡ k
  pub few : next ≤ first + length toggles
  pub after : first ≤ next
