use Rattle.std.proofs.Common.{take}
use Rattle.cycle_start.specs.Cleared.{AreCleared}
use Rattle.cycle_start.proofs.start.clear_spans.Given as goal

abbrev pub invariant-loop-span : goal.invariant-loop-span
invariant-loop-span l = AreCleared l.design (take l.span-index l.spans) l.fn.state l.state
