use Rattle.std.proofs.Common.{◌≡◌, take}
use Rattle.std.specs.Prelude.{Contains}
use Rattle.flow_edges.specs.Owning.{Notes}
use Rattle.flow_edges.proofs.owners.own_spans.Given as goal

abbrev pub invariant-loop-span : goal.invariant-loop-span
invariant-loop-span l = Notes l.initial.owners l.owners (λ x s. (x ≡ l.p) × Contains (take l.span-index l.spans) s)
