use Rattle.std.proofs.Common.{◌≡◌, ◌++◌, drop}
use Rattle.line_sets.proofs.Runs.{joined, runs}
use Rattle.line_sets.proofs.lists.runs_of.Given as goal

abbrev pub invariant-loop-line : goal.invariant-loop-line
invariant-loop-line l = l.runs ++ joined l.«open» (drop l.line-index l.line-items) ≡ runs l.lines
