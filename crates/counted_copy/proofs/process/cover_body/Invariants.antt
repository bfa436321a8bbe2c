use Rattle.std.proofs.Common.{◌≡◌, ℕ, List, [], ◌∷◌, take}
use Rattle.counted_circuit.specs.Inserted.{counts}
use Rattle.counted_copy.specs.Carried.{carried_by}
use Rattle.counted_copy.proofs.Tests.{SoFar}
use Rattle.counted_copy.proofs.process.cover_body.Given as goal

abbrev pub invariant-loop-step : goal.invariant-loop-step
invariant-loop-step l = SoFar (counts (carried_by l.carriers l.arm)) l.process.body l.step-index l.body
