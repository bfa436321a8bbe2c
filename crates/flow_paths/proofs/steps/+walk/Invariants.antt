use Rattle.std.proofs.Common.{◌&&◌, take}
use Rattle.flow_marks.specs.Takes.{is_listed}
use Rattle.flow_paths.specs.Walking.{Passes, Branches, always_steps, early_steps}
use Rattle.flow_paths.proofs.StepPasses.{all_always, any_early}
use Rattle.flow_paths.proofs.steps.+walk.Given as goal

abbrev pub invariant-taken_in-loop-step : goal.invariant-taken_in-loop-step
invariant-taken_in-loop-step l = Passes l.initial.walk l.walk (always_steps (take l.step-index l.steps)) (early_steps (take l.step-index l.steps))

abbrev pub invariant-taken_in_arms-loop-arm : goal.invariant-taken_in_arms-loop-arm
invariant-taken_in_arms-loop-arm l = Branches l.initial.walk l.walk l.all.items (λ b. is_listed l.fn.first.items b && all_always (take l.arm-index l.arms) b)
    (any_early (take l.arm-index l.arms))
