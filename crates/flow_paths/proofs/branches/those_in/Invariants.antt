use Rattle.std.proofs.Common.{◌≡◌, ◌&&◌, take}
use Rattle.circuit_run.specs.States.{Bit}
use Rattle.flow_marks.specs.Sets.{has}
use Rattle.flow_marks.specs.Takes.{AreIn, is_listed}
use Rattle.flow_paths.proofs.branches.those_in.Given as goal

abbrev pub invariant-loop-spot : goal.invariant-loop-spot
invariant-loop-spot l = record {
  inside : AreIn l.marks.slots l.all.items;
  bits : (b : Bit) → is_listed l.all.items b ≡ (is_listed (take l.spot-index l.spots) b && has l.marks b);
}
