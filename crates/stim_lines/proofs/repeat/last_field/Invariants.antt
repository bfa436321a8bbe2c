use Rattle.std.proofs.Common.{◌≡◌, ◌∷◌, length}
use Rattle.stim_lines.specs.Fields.{fields_of}
use Rattle.stim_lines.specs.RowLines as spec
use Rattle.stim_lines.proofs.repeat.last_field.Given as goal

abbrev pub invariant-loop-cut : goal.invariant-loop-cut
invariant-loop-cut l = spec.last_field (l.last ∷ fields_of l.rest) ≡ spec.last_field (fields_of l.fn.line)

abbrev pub decreases-loop-cut : goal.decreases-loop-cut
decreases-loop-cut l = length l.rest
