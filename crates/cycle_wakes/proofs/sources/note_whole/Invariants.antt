use Rattle.std.proofs.Common.{◌≡◌, ℕ, length, take}
use Rattle.std.specs.Prelude.{◌⊎◌, IsTrue}
use Rattle.cycle_wakes.specs.Sources.{HaveWhole, written_at}
use Rattle.cycle_wakes.proofs.sources.note_whole.Given as goal

abbrev pub invariant-loop-span : goal.invariant-loop-span
invariant-loop-span l = record {
  many : length l.written ≡ length l.vars;
  whole : (v : ℕ) → IsTrue (written_at l.written v) → IsTrue (written_at l.fn.written v) ⊎ HaveWhole l.vars l.spans v;
}
