use Rattle.std.proofs.Common.{◌≡◌, length}
use Rattle.stim_lines.specs.Fields.{fields_of}
use Rattle.stim_lines.specs.Header as spec
use Rattle.stim_lines.proofs.names.is_field.Given as goal

abbrev pub invariant-loop-cut : goal.invariant-loop-cut
invariant-loop-cut l = spec.is_among (fields_of l.rest) l.name ≡ spec.is_among (fields_of l.fn.line) l.name

abbrev pub decreases-loop-cut : goal.decreases-loop-cut
decreases-loop-cut l = length l.rest
