use Rattle.std.proofs.Common.{◌≡◌, ℕ, ◌<◌, length}
use Rattle.design_meaning.specs.Processes.{process_of}
use Rattle.flat_design.specs.Effects.{room_of}
use Rattle.cycle_settle.specs.Settling.{kept_of}
use Rattle.simulator.proofs.prepare.raised_rooms.Given as goal

abbrev pub invariant-loop-p : goal.invariant-loop-p
invariant-loop-p l = record {
  many : length l.kept.items ≡ l.p;
  rooms : (q : ℕ) → q < l.p → (kept_of l.kept.items q).room ≡ (room_of l.design (process_of l.design q)).counters;
}
