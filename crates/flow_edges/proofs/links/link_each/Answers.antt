use Rattle.std.proofs.Common.{◌≡◌, ◌∙◌, subst, ℕ, List}
use Rattle.std.specs.Prelude.{Contains}
use Rattle.std.proofs.lemmas.List.{take_all}
use Rattle.flow_hubs.specs.Adding.{Adds}
use Rattle.flow_edges.specs.Linking.{MayLead}
use Rattle.flow_edges.proofs.Linked.{each_more}
use Rattle.flow_edges.proofs.links.link_each.Goals as goal

pub link-requires-clause-many : goal.link-requires-clause-many
link-requires-clause-many c = c.loop-p.invariant.as_many ∙ c.requires.many

pub loop-p-preserved : goal.loop-p-preserved
loop-p-preserved c =
    each_more c.args.design.now c.args.from.now c.args.q c.loop-p.p-index c.args.next.now.items c.loop-p.next.items c.link.new.next.items
    c.loop-p-test.true c.loop-p.invariant c.in_ok-link.ensures

pub returns : goal.returns
returns c =
    subst (λ (from : List ℕ). Adds c.args.next.now.items c.loop-p.next.items (λ i x. Contains from i × (x ≡ c.args.q) × MayLead c.args.design.now i x))
    (take_all c.loop-p.p-index c.args.from.now c.loop-p-test.false) c.loop-p.invariant
