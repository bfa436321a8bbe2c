use Rattle.std.proofs.Common.{◌≡◌, subst, arith, take, List}
use Rattle.std.specs.Prelude.{Contains}
use Rattle.std.proofs.lemmas.List.{take_all}
use Rattle.flow_marks.specs.declared.span.Span.{Span}
use Rattle.flow_edges.specs.Linking.{Grows}
use Rattle.flow_edges.proofs.Grown.{grows_none, grows_span, still_sized}
use Rattle.flow_edges.proofs.links.link_reads.Goals as goal

pub loop-span-init : goal.loop-span-init
loop-span-init c =
    grows_none c.args.design.now c.args.links.now (λ x s. (x ≡ c.args.q) × Contains (take 0 c.args.spans.now) s)
    (λ x s r. absurd (omega (arith, r.1.1)))

pub link_span-requires-clause-sized : goal.link_span-requires-clause-sized
link_span-requires-clause-sized c =
    still_sized c.args.design.now c.args.links.now c.loop-span.links (λ x s. (x ≡ c.args.q) × Contains (take c.loop-span.span-index c.args.spans.now) s)
    c.requires.sized c.loop-span.invariant

pub loop-span-preserved : goal.loop-span-preserved
loop-span-preserved c =
    grows_span c.args.design.now c.args.links.now c.loop-span.links c.link_span.new.links c.args.spans.now c.loop-span.span-index c.args.q
    c.loop-span-test.true c.loop-span.invariant c.in_ok-link_span.ensures

pub returns : goal.returns
returns c =
    subst (λ (spans : List Span). Grows c.args.design.now c.args.links.now c.loop-span.links (λ x s. (x ≡ c.args.q) × Contains spans s))
    (take_all c.loop-span.span-index c.args.spans.now c.loop-span-test.false) c.loop-span.invariant
