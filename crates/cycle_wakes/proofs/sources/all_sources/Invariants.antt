use Rattle.std.proofs.Common.{◌≡◌, ℕ, length}
use Rattle.std.specs.Prelude.{IsTrue}
use Rattle.cycle_wakes.specs.Sources.{IsWritten, written_at}
use Rattle.cycle_wakes.proofs.sources.all_sources.Given as goal

abbrev pub invariant-loop-p : goal.invariant-loop-p
invariant-loop-p l = record {
  many : length l.written.items ≡ length l.vars;
  whole : (v : ℕ) → IsTrue (written_at l.written.items v) → IsWritten l.vars l.uses l.order v;
}
