use Rattle.std.proofs.Common.{length}
use Rattle.cycle_wakes.specs.Readers.{AreReaders}
use Rattle.cycle_wakes.proofs.readers.all_readers.Given as goal

abbrev pub invariant-loop-at : goal.invariant-loop-at
invariant-loop-at l = AreReaders (length l.vars) l.uses l.order l.at l.readers.items
