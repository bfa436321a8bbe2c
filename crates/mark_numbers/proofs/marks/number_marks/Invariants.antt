use Rattle.std.proofs.Common.{take}
use Rattle.mark_numbers.proofs.Counting.{AreNumbered}
use Rattle.mark_numbers.proofs.marks.number_marks.Given as goal

abbrev pub invariant-loop-mark : goal.invariant-loop-mark
invariant-loop-mark l = AreNumbered (take l.mark-index l.marks) l.first l.next l.numbers
