use Rattle.std.proofs.Common.{◌≡◌, ◌++◌, length, map}
use Rattle.stim_lines.specs.Fields.{fields_of}
use Rattle.stim_lines.specs.Header.{inputs_of}
use Rattle.stim_lines.specs.RowLines.{width_of}
use Rattle.stim_lines.proofs.layout.widths.Given as goal

abbrev pub invariant-loop-cut : goal.invariant-loop-cut
invariant-loop-cut l = l.widths ++ map (width_of (inputs_of l.design)) (fields_of l.rest) ≡ map (width_of (inputs_of l.design)) (fields_of l.fn.line)

abbrev pub decreases-loop-cut : goal.decreases-loop-cut
decreases-loop-cut l = length l.rest
