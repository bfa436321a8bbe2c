use Rattle.std.proofs.Common.{◌<◌, ◌≤◌, ℕ}
use Rattle.flow_marks.specs.Sets.{HasInColumn}
use Rattle.flow_marks.proofs.marks.Marks.meets_columns.Given as goal

abbrev pub invariant-loop-place : goal.invariant-loop-place
invariant-loop-place l = (c : ℕ) → l.span.place ≤ c → c < l.place → HasInColumn l.self l.span.var c → ⊥
