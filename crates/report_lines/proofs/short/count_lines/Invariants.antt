use Rattle.std.proofs.Common.{◌≡◌, ◌+◌, ◌≤◌, length}
use Rattle.cov_port.specs.Lines.{lines_of}
use Rattle.report_lines.proofs.short.count_lines.Given as goal

abbrev pub invariant-lines : goal.invariant-lines
invariant-lines l = (l.lines + length l.rest ≤ length l.text) × (l.lines + length (lines_of l.rest) ≡ length (lines_of l.text))

abbrev pub decreases-lines : goal.decreases-lines
decreases-lines l = length l.rest
