use Rattle.std.proofs.Common.{◌≡◌, ℕ, ◌*◌, ◌<◌, ◌≤◌, false, length}
use Rattle.std.specs.Prelude.{IsTrue}
use Rattle.circuit_run.specs.Kinds.{is_assign}
use Rattle.design_meaning.specs.Processes.{kind_of}
use Rattle.place_marks.specs.Marked.{is_marked}
use Rattle.cycle_phases.proofs.others.mark_others.Given as goal

abbrev pub invariant-loop-at : goal.invariant-loop-at
invariant-loop-at l = record {
  room : length l.design.processes ≤ 64 * length l.marks;
  others : (p : ℕ) → p < l.at → is_marked l.marks p ≡ false → IsTrue (is_assign (kind_of l.design p));
}
