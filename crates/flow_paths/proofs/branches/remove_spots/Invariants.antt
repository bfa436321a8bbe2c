use Rattle.std.proofs.Common.{◌≡◌, ◌&&◌, not, take}
use Rattle.circuit_run.specs.States.{Bit}
use Rattle.flow_marks.specs.Slots.{IsIn}
use Rattle.flow_marks.specs.Sets.{has}
use Rattle.flow_marks.specs.Takes.{is_listed}
use Rattle.flow_paths.proofs.branches.remove_spots.Given as goal

abbrev pub invariant-loop-spot : goal.invariant-loop-spot
invariant-loop-spot l = record {
  slots : l.marks.slots ≡ l.initial.marks.slots;
  bits : (b : Bit) → IsIn l.initial.marks.slots b → has l.marks b ≡ (not (is_listed (take l.spot-index l.spots) b) && has l.initial.marks b);
}
