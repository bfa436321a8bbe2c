use Rattle.std.proofs.Common.{◌≡◌, ◌≤◌}
use Rattle.source_meaning.specs.Joins.{powers_below}
use Rattle.elab_constants.proofs.unary.ceil_log2.Given as goal

abbrev pub invariant-loop-power : goal.invariant-loop-power
invariant-loop-power l = record { counted : l.below ≡ powers_below l.power l.of; few : l.below ≤ l.power }
