use Rattle.std.proofs.Common.{◌≡◌, ◌+◌, ◌≤◌, length}
use Rattle.stim_lines.specs.Fields as spec
use Rattle.stim_lines.proofs.fields.count_fields.Given as goal

abbrev pub invariant-loop-cut : goal.invariant-loop-cut
invariant-loop-cut l = record {
  counted : l.count + length (spec.fields_of l.rest) ≡ length (spec.fields_of l.fn.line);
  within : l.count + length l.rest ≤ length l.fn.line;
}

abbrev pub decreases-loop-cut : goal.decreases-loop-cut
decreases-loop-cut l = length l.rest
