use Rattle.std.proofs.Common.{[], length, map, take}
use Rattle.std.specs.Prelude.{flat_map}
use Rattle.counted_circuit.specs.Sorts.{sorts}
use Rattle.counted_circuit.specs.Tells.{tells, arm_telling, arms_of, arms_of_arms, forks_in_turn, forks_of_arms}
use Rattle.arm_rows.specs.Rows.{Adds, sorts_of_arm}
use Rattle.arm_rows.proofs.steps.+arms.Given as goal

abbrev pub invariant-put_arms-loop-arm : goal.invariant-put_arms-loop-arm
invariant-put_arms-loop-arm l = Adds (arms_of_arms (map arm_telling (take l.arm-index l.arms))) (flat_map sorts_of_arm (take l.arm-index l.arms))
    (forks_of_arms (map arm_telling (take l.arm-index l.arms)) [] (length l.initial.rows)) l.initial.rows l.rows

abbrev pub invariant-put_steps-loop-step : goal.invariant-put_steps-loop-step
invariant-put_steps-loop-step l = Adds (arms_of (map tells (take l.step-index l.steps))) (flat_map sorts (take l.step-index l.steps))
    (forks_in_turn (map tells (take l.step-index l.steps)) l.around (length l.initial.rows)) l.initial.rows l.rows
