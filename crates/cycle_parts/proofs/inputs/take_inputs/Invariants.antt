use Rattle.std.proofs.Common.{◌≡◌}
use Rattle.cycle_parts.proofs.WordLaws.{AreTaken}
use Rattle.cycle_parts.proofs.inputs.take_inputs.Given as goal

abbrev pub invariant-loop-at : goal.invariant-loop-at
invariant-loop-at l = record {
  taken : AreTaken l.design l.at l.values l.fn.state l.state;
  same : l.inputs ≡ l.design.inputs;
}
