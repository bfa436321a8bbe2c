use Rattle.std.proofs.Common.{◌≡◌, take, map}
use Rattle.std.specs.Prelude.{flat_map}
use Rattle.counted_circuit.specs.Erased.{erased}
use Rattle.erase.specs.Arms.{arm_without_counts}
use Rattle.erase.proofs.steps.+erase.Given as goal

abbrev pub invariant-arms_left-loop-arm : goal.invariant-arms_left-loop-arm
invariant-arms_left-loop-arm l = l.left ≡ map arm_without_counts (take l.arm-index l.arms)

abbrev pub invariant-steps_left-loop-step : goal.invariant-steps_left-loop-step
invariant-steps_left-loop-step l = l.left ≡ flat_map erased (take l.step-index l.steps)
