use Rattle.std.proofs.Common.{◌≡◌, ◌||◌}
use Rattle.circuit_run.specs.States.{Bit}
use Rattle.flow_marks.specs.Slots.{IsIn, is_in, columns}
use Rattle.flow_marks.specs.Sets.{has}
use Rattle.flow_marks.proofs.marks.Marks.insert.Given as goal

abbrev pub invariant-loop-place : goal.invariant-loop-place
invariant-loop-place l = record {
  slots : l.self.slots ≡ l.initial.self.slots;
  bits : (b : Bit) → IsIn l.initial.self.slots b → has l.self b ≡ (is_in (columns l.span l.place) b || has l.initial.self b);
}
