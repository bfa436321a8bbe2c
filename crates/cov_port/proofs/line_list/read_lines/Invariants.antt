use Rattle.std.proofs.Common.{◌≡◌, ◌++◌, length}
use Rattle.std.specs.Option.{option_map}
use Rattle.cov_port.specs.LineReading.{runs_of}
use Rattle.cov_port.proofs.line_list.read_lines.Given as goal

abbrev pub invariant-runs : goal.invariant-runs
invariant-runs l = option_map (λ more. l.lines ++ more) (runs_of l.rest) ≡ runs_of l.text

abbrev pub decreases-runs : goal.decreases-runs
decreases-runs l = length l.rest
