use Rattle.std.proofs.Common.{◌≡◌, ◌+◌, ◌≤◌, drop}
use Rattle.report_lines.specs.Walks.{reached_in}
use Rattle.report_lines.proofs.total.reached.Given as goal

abbrev pub invariant-lines : goal.invariant-lines
invariant-lines l = (l.reached ≤ l.line-index) × (l.reached + reached_in l.minimum (drop l.line-index l.lines) ≡ reached_in l.minimum l.lines)
