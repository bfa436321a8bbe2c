use Rattle.std.proofs.Common.{◌≡◌, take}
use Rattle.counted_copy.proofs.process.assignment_body.Given as goal

abbrev pub invariant-loop-step : goal.invariant-loop-step
invariant-loop-step l = l.body ≡ take l.step-index l.process.body
