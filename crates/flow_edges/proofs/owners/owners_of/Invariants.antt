use Rattle.flow_edges.specs.Owning.{Notes}
use Rattle.flow_edges.proofs.Owned.{Named}
use Rattle.flow_edges.proofs.owners.owners_of.Given as goal

abbrev pub invariant-loop-p : goal.invariant-loop-p
invariant-loop-p l = Notes l.initial.owners l.owners (Named l.design l.uses l.p)
