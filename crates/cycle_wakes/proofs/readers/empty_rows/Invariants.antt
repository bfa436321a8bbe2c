use Rattle.std.proofs.Common.{◌≡◌, ℕ, [], length}
use Rattle.cycle_wakes.specs.Readers.{places_of}
use Rattle.cycle_wakes.proofs.readers.empty_rows.Given as goal

abbrev pub invariant-loop-done : goal.invariant-loop-done
invariant-loop-done l = record {
  many : length l.readers.items ≡ l.done;
  empty : (v : ℕ) → places_of l.readers.items v ≡ [];
}
