-- A machine stands in its run after each call.
use Rattle.std.proofs.Common.{ℕ, ◌+◌, ◌*◌, ◌≤◌, ◌^◌, arith}
use Rattle.design_tree.specs.declared.instrumented.Instrumented.{Instrumented}
use Rattle.design_meaning.specs.Valid.{IsValid}
use Rattle.cycle_run.proofs.StepBounds.{counters_few}
use Rattle.cycle_run.proofs.ToggleBounds.{toggles_few}
use Rattle.simulator.specs.Machines.{most_raised}

-- a cycle of a valid design raises no more than 2 ^ 26
pub raises_few : (x : Instrumented) → IsValid x → most_raised x ≤ 2 ^ 26
raises_few x v = omega (arith, counters_few x.design, v.limits.steps, toggles_few x v.toggles, v.limits.bits)

-- counters keep within what so many cycles raise
pub few_after : (a b c n t k : ℕ) → a ≤ (n + 1) * 2 ^ 26 → b ≤ a + k + t → c ≤ b + k → k + k + t ≤ 2 ^ 26 → c ≤ (n + 1 + 1) * 2 ^ 26
few_after a b c n t k ha hb hc hm = omega (arith, ha, hb, hc, hm)
