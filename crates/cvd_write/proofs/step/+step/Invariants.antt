use Rattle.std.proofs.Common.{◌≡◌, ◌++◌, drop}
use Rattle.std.specs.List.{flat_map}
use Rattle.cvd_write.specs.Writing.{step_text, arm_text}
use Rattle.cvd_write.proofs.step.+step.Given as goal

abbrev pub invariant-all_steps-loop-one : goal.invariant-all_steps-loop-one
invariant-all_steps-loop-one l = l.out ++ flat_map step_text (drop l.one-index l.steps) ≡ l.initial.out ++ flat_map step_text l.steps

abbrev pub invariant-all_arms-loop-one : goal.invariant-all_arms-loop-one
invariant-all_arms-loop-one l = l.out ++ flat_map arm_text (drop l.one-index l.arms) ≡ l.initial.out ++ flat_map arm_text l.arms
