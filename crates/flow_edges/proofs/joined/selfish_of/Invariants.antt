use Rattle.flow_edges.proofs.Columns.{AreTold}
use Rattle.flow_edges.proofs.joined.selfish_of.Given as goal

abbrev pub invariant-loop-p : goal.invariant-loop-p
invariant-loop-p l = AreTold l.design l.selfish.items l.p
