-- The room of one process is within that of all.
use Rattle.std.proofs.Common.{ℕ, zero, suc, ◌<◌, ◌≤◌, List, [], ◌∷◌, length, map, slice_index_or, arith}
use Rattle.design_tree.specs.declared.design.Process.{Process}
use Rattle.circuit_run.specs.Lists.{total}
use Rattle.design_meaning.specs.Processes.{no_process}
use Rattle.flat_design.specs.Effects.{room_of}
use Rattle.flat_design.specs.Laws.{RoomForEach}

within_total : (f : Process → ℕ) (ps : List Process) (p : ℕ) → p < length ps → f (slice_index_or ps p no_process) ≤ total (map f ps)
within_total f [] p lt = absurd (omega (arith, lt))
within_total f (x ∷ xs) zero lt = omega arith
within_total f (x ∷ xs) (suc p) lt = omega (arith, within_total f xs p (omega (arith, lt)))

pub room_for_each : RoomForEach
room_for_each d p lt = record {
  for_updates = omega (arith, within_total (λ x. (room_of d x).updates) d.processes p lt);
  for_bytes = omega (arith, within_total (λ x. (room_of d x).bytes) d.processes p lt);
  for_counters = omega (arith, within_total (λ x. (room_of d x).counters) d.processes p lt);
}
