use Rattle.cycle_wakes.specs.Changes.{HasMarked}
use Rattle.cycle_wakes.proofs.changes.mark_each.Given as goal

abbrev pub invariant-loop-place : goal.invariant-loop-place
invariant-loop-place l = HasMarked l.fn.marks l.marks l.places l.place-index
