use Rattle.std.proofs.Common.{◌≡◌, ℕ, ◌+◌, ◌*◌, ◌<◌, ◌≤◌, true, length, []}
use Rattle.test_rank.specs.Ranking.{is_among, covered_by, pairs_of, points_of}
use Rattle.test_rank.specs.Counting.{AreGains, marked, total}
use Rattle.test_rank.specs.Choosing.{BeginsChosen, picks_behind, tests_of}
use Rattle.test_rank.proofs.choose.choose.Given as goal

abbrev pub invariant-picks : goal.invariant-picks
invariant-picks g l = record {
  gains : AreGains l.covers (marked l.covered) l.gains;
  len : length l.gains ≡ length l.covers;
  covered : (p : ℕ) → marked l.covered p ≡ is_among (covered_by l.covers (tests_of l.picks)) p;
  room : (t p : ℕ) → is_among (points_of l.covers t) p ≡ true → p < length l.covered;
  begins : BeginsChosen l.covers (tests_of l.picks);
  points : l.picks ≡ picks_behind l.covers [] (tests_of l.picks);
  marks : (t : ℕ) → marked l.chosen t ≡ is_among (tests_of l.picks) t;
  marks_room : length l.chosen ≡ length l.covers;
  most : length l.picks + total l.gains ≤ pairs_of l.covers;
  ticks : l.steps + total l.gains ≤ l.initial.steps + pairs_of l.covers + length l.covers * length l.picks;
}

abbrev pub decreases-picks : goal.decreases-picks
decreases-picks g l = total l.gains
