use Rattle.std.proofs.Common.{ℕ, ◌<◌, length}
use Rattle.std.specs.Prelude.{◌⊎◌, All, Contains, IsTrue}
use Rattle.cycle_wakes.specs.Sources.{written_at}
use Rattle.cycle_wakes.proofs.sources.unwritten.Given as goal

abbrev pub invariant-loop-v : goal.invariant-loop-v
invariant-loop-v l = record {
  each : (v : ℕ) → v < l.v → IsTrue (written_at l.written v) ⊎ Contains l.vars v;
  within : All (λ v. v < length l.written) l.vars;
}
