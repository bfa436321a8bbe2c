use Rattle.flow_edges.specs.Linking.{Grows}
use Rattle.flow_edges.proofs.Grown.{ReadBelow}
use Rattle.flow_edges.proofs.links.links_of.Given as goal

abbrev pub invariant-loop-q : goal.invariant-loop-q
invariant-loop-q l = Grows l.design l.initial.links l.links (ReadBelow l.design l.uses l.q)
