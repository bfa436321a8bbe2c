use Rattle.std.proofs.Common.{◌≡◌, ℕ, ◌+◌, ◌≤◌, ◌||◌, length, get_or, take}
use Rattle.test_rank.specs.Ranking.{is_among}
use Rattle.test_rank.specs.Counting.{AreGains, marked, total}
use Rattle.test_rank.proofs.choose.cover.Given as goal

abbrev pub invariant-points : goal.invariant-points
invariant-points g l = record {
  gains : AreGains l.covers (marked l.covered) l.gains;
  covered : (p : ℕ) → marked l.covered p ≡ (marked l.initial.covered p || is_among (take l.point-index l.points) p);
  room : length l.covered ≡ length l.initial.covered;
  len : length l.gains ≡ length l.initial.gains;
  falls : (t : ℕ) → get_or l.gains t 0 ≤ get_or l.initial.gains t 0;
  ticks : l.steps + total l.gains ≡ l.initial.steps + total l.initial.gains;
}
