use Rattle.std.proofs.Common.{◌≡◌, ◌+◌, ◌≤◌, length}
use Rattle.stim_lines.specs.Fields.{fields_of}
use Rattle.stim_lines.specs.Layouts as spec
use Rattle.stim_lines.proofs.names.column_of.Given as goal

abbrev pub invariant-loop-cut : goal.invariant-loop-cut
invariant-loop-cut l = record {
  counted : l.column + spec.column_of (fields_of l.rest) l.name ≡ spec.column_of (fields_of l.fn.line) l.name;
  within : l.column + length l.rest ≤ length l.fn.line;
}

abbrev pub decreases-loop-cut : goal.decreases-loop-cut
decreases-loop-cut l = length l.rest
