use Rattle.std.proofs.Common.{◌≡◌, take}
use Rattle.stim_lines.specs.Fields.{fields_of}
use Rattle.stim_lines.specs.Header as spec
use Rattle.stim_lines.proofs.names.is_earlier.Given as goal

abbrev pub invariant-loop-left : goal.invariant-loop-left
invariant-loop-left l = spec.is_among (take l.left (fields_of l.rest)) l.name ≡ spec.is_among (take l.fn.count (fields_of l.fn.line)) l.name

abbrev pub decreases-loop-left : goal.decreases-loop-left
decreases-loop-left l = l.left
