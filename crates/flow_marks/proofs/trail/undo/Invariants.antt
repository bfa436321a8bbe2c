use Rattle.std.proofs.Common.{length}
use Rattle.flow_marks.proofs.Undoing.{Undoing}
use Rattle.flow_marks.proofs.trail.undo.Given as goal

abbrev pub invariant-undo : goal.invariant-undo
invariant-undo l = Undoing l.fn.marks l.marks l.fn.trail.items l.trail.items l.from

abbrev pub decreases-undo : goal.decreases-undo
decreases-undo l = length l.trail.items
