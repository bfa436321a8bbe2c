use Rattle.std.proofs.Common.{◌≡◌, length, take}
use Rattle.stim_lines.specs.Layouts as spec
use Rattle.stim_lines.proofs.values.place_values.Given as goal

abbrev pub invariant-loop-at : goal.invariant-loop-at
invariant-loop-at l = record {
  done : take l.at l.values ≡ spec.placed l.cells (take l.at l.columns);
  len : length l.values ≡ length l.initial.values;
}
