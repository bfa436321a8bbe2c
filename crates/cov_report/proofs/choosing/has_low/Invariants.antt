use Rattle.std.proofs.Common.{◌≡◌, drop}
use Rattle.cov_report.specs.Choosing.{has_low}
use Rattle.cov_report.proofs.choosing.has_low.Given as goal

abbrev pub invariant-lines : goal.invariant-lines
invariant-lines l = has_low l.minimum (drop l.line-index l.lines) ≡ has_low l.minimum l.lines
