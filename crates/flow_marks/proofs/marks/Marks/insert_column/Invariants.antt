use Rattle.std.proofs.Common.{◌≡◌, ◌||◌}
use Rattle.circuit_run.specs.States.{Bit}
use Rattle.flow_marks.specs.Slots.{IsIn, is_in, column}
use Rattle.flow_marks.specs.Sets.{has}
use Rattle.flow_marks.proofs.marks.Marks.insert_column.Given as goal

abbrev pub invariant-loop-word : goal.invariant-loop-word
invariant-loop-word l = record {
  slots : l.self.slots ≡ l.initial.self.slots;
  bits : (b : Bit) → IsIn l.initial.self.slots b → has l.self b ≡ (is_in (column l.span l.place l.word) b || has l.initial.self b);
}
