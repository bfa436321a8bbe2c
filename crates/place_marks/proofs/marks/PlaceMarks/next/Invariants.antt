use Rattle.std.proofs.Common.{◌≡◌, ℕ, ◌+◌, ◌-◌, ◌*◌, ◌<◌, ◌≤◌, false, length}
use Rattle.place_marks.specs.Marked.{is_marked}
use Rattle.place_marks.proofs.marks.PlaceMarks.next.Given as goal

abbrev pub invariant-words : goal.invariant-words
invariant-words l = record {
  few : l.low < 64;
  from : l.fn.from ≤ l.at * 64 + l.low;
  none : (k : ℕ) → l.fn.from ≤ k → k < l.at * 64 + l.low → is_marked l.self-inside.words.items k ≡ false;
}

abbrev pub decreases-words : goal.decreases-words
decreases-words l = length l.self-inside.words.items - l.at
