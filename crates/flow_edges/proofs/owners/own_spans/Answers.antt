use Rattle.std.proofs.Common.{◌≡◌, List, subst}
use Rattle.std.specs.Prelude.{Contains}
use Rattle.std.proofs.lemmas.List.{take_all}
use Rattle.flow_marks.specs.declared.span.Span.{Span}
use Rattle.flow_edges.specs.Owning.{Notes}
use Rattle.flow_edges.proofs.Noting.{notes_span}
use Rattle.flow_edges.proofs.owners.own_spans.Goals as goal

pub loop-span-preserved : goal.loop-span-preserved
loop-span-preserved c =
    notes_span c.args.owners.now c.loop-span.owners c.own_span.new.owners c.args.spans.now c.loop-span.span-index c.args.p c.loop-span-test.true
    c.loop-span.invariant c.in_ok-own_span.ensures

pub returns : goal.returns
returns c = subst (λ (spans : List Span). Notes c.args.owners.now c.loop-span.owners (λ x s. (x ≡ c.args.p) × Contains spans s))
    (take_all c.loop-span.span-index c.args.spans.now c.loop-span-test.false) c.loop-span.invariant
