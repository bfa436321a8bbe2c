use Rattle.std.proofs.Common.{◌≡◌, length, map, drop}
use Rattle.circuit_run.specs.Writes.{all_written}
use Rattle.design_state.specs.Positions.{part_of}
use Rattle.flat_design.proofs.place.write_updates.Given as goal

abbrev pub invariant-loop-update : goal.invariant-loop-update
invariant-loop-update l = record {
  written : all_written l.state (map part_of (drop l.update-index l.updates)) ≡ all_written l.fn.state (map part_of l.updates);
  same_length : length l.state ≡ length l.fn.state;
}
