use Rattle.std.proofs.Common.{◌≡◌, ◌++◌, drop, length, map, take}
use Rattle.std.specs.Prelude.{zip}
use Rattle.stim_lines.specs.Fields.{fields_of}
use Rattle.stim_lines.specs.Layouts as spec
use Rattle.stim_lines.proofs.values.read_cells.Given as goal

abbrev pub invariant-loop-at : goal.invariant-loop-at
invariant-loop-at l = record {
  left : spec.cells_fault l.number (zip (drop l.at l.widths) (fields_of l.rest)) ≡ spec.cells_fault l.number (zip l.widths (fields_of l.fn.line));
  read : take l.at l.cells ++ map spec.cell_value (fields_of l.rest) ≡ map spec.cell_value (fields_of l.fn.line);
  len : length l.cells ≡ length l.initial.cells;
}
