use Rattle.std.proofs.Common.{◌≡◌, take}
use Rattle.std.specs.Prelude.{Contains}
use Rattle.flow_edges.specs.Linking.{Grows}
use Rattle.flow_edges.proofs.links.link_reads.Given as goal

abbrev pub invariant-loop-span : goal.invariant-loop-span
invariant-loop-span l = Grows l.design l.initial.links l.links (λ x s. (x ≡ l.q) × Contains (take l.span-index l.spans) s)
