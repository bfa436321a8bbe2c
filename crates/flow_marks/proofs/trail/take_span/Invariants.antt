use Rattle.flow_marks.specs.Slots.{is_in, row}
use Rattle.flow_marks.specs.Takes.{Takes}
use Rattle.flow_marks.proofs.trail.take_span.Given as goal

abbrev pub invariant-loop-place : goal.invariant-loop-place
invariant-loop-place l = Takes l.initial.marks l.marks l.initial.trail.items l.trail.items (is_in (row l.span l.span.word l.place))
