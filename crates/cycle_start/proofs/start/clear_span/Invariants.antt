use Rattle.std.proofs.Common.{◌∷◌, []}
use Rattle.cycle_start.specs.Cleared.{AreCleared}
use Rattle.cycle_start.proofs.Clearing.{up_to}
use Rattle.cycle_start.proofs.start.clear_span.Given as goal

abbrev pub invariant-loop-word : goal.invariant-loop-word
invariant-loop-word l = AreCleared l.design (up_to l.span l.word ∷ []) l.fn.state l.state
