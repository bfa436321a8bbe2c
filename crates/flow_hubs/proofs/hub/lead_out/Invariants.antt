use Rattle.flow_hubs.specs.Adding.{Adds}
use Rattle.flow_hubs.proofs.Listed.{Out}
use Rattle.flow_hubs.proofs.hub.lead_out.Given as goal

abbrev pub invariant-loop-q : goal.invariant-loop-q
invariant-loop-q l = Adds l.initial.next.items l.next.items (Out l.hub l.readers l.q-index)
