use Rattle.std.proofs.Common.{◌≡◌, ◌+◌, ◌≤◌, drop, length, take}
use Rattle.stim_lines.specs.Fields.{fields_of}
use Rattle.stim_lines.specs.Header as spec
use Rattle.stim_lines.proofs.header.fields_fault.Given as goal

abbrev pub invariant-loop-cut : goal.invariant-loop-cut
invariant-loop-cut l = record {
  left : spec.fields_fault (spec.inputs_of l.design) l.number (take l.before (fields_of l.fn.line)) (fields_of l.rest)
      ≡ spec.fields_fault (spec.inputs_of l.design) l.number (take 0 (fields_of l.fn.line)) (fields_of l.fn.line);
  behind : drop l.before (fields_of l.fn.line) ≡ fields_of l.rest;
  within : l.before + length l.rest ≤ length l.fn.line;
}

abbrev pub decreases-loop-cut : goal.decreases-loop-cut
decreases-loop-cut l = length l.rest
