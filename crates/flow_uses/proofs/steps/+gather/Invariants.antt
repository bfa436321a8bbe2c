use Rattle.std.proofs.Common.{take}
use Rattle.std.specs.List.{list_any}
use Rattle.flow_uses.specs.Walks.{some_in, arm_has}
use Rattle.flow_uses.specs.Gathers.{Gathers}
use Rattle.flow_uses.proofs.steps.+gather.Given as goal

abbrev pub invariant-gather_arms-loop-arm : goal.invariant-gather_arms-loop-arm
invariant-gather_arms-loop-arm l = Gathers l.vars l.initial.lists l.lists (λ test. list_any (arm_has test) (take l.arm-index l.arms))

abbrev pub invariant-gather_steps-loop-step : goal.invariant-gather_steps-loop-step
invariant-gather_steps-loop-step l = Gathers l.vars l.initial.lists l.lists (λ test. list_any (some_in test) (take l.step-index l.steps))
