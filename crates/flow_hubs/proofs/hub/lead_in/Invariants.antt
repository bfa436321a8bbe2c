use Rattle.flow_hubs.specs.Adding.{Adds}
use Rattle.flow_hubs.proofs.Listed.{In}
use Rattle.flow_hubs.proofs.hub.lead_in.Given as goal

abbrev pub invariant-loop-p : goal.invariant-loop-p
invariant-loop-p l = Adds l.initial.next.items l.next.items (In l.drivers l.hub l.p-index)
