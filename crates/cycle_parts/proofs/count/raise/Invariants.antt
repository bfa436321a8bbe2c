use Rattle.std.proofs.Common.{take}
use Rattle.design_meaning.specs.Counters.{HasCounted}
use Rattle.cycle_parts.proofs.count.raise.Given as goal

abbrev pub invariant-loop-counter : goal.invariant-loop-counter
invariant-loop-counter l = HasCounted l.fn.counts (take l.counter-index l.raised) l.counts
