use Rattle.std.proofs.Common.{take}
use Rattle.flat_lines.specs.Lines.{StopsAmong}
use Rattle.flat_lines.proofs.stop.+statement_stops.Given as goal

abbrev pub invariant-any_stops-loop-part : goal.invariant-any_stops-loop-part
invariant-any_stops-loop-part l = StopsAmong (take l.part-index l.parts) → ⊥
