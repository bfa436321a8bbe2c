use Rattle.std.proofs.Common.{length}
use Rattle.cvd_sections.proofs.CounterLists.{ListSoFar}
use Rattle.cvd_sections.proofs.counters.list_of.Given as goal

abbrev pub invariant-parts : goal.invariant-parts
invariant-parts l = ListSoFar l.counters l.fn.word l.rest l.kept

abbrev pub decreases-parts : goal.decreases-parts
decreases-parts l = length l.rest
