use Rattle.std.proofs.Common.{◌≡◌, sym, subst}
use Rattle.flow_edges.specs.Linking.{MayLead}
use Rattle.flow_hubs.proofs.Growing.{adds_as}
use Rattle.flow_edges.proofs.links.link.Goals as goal

pub returns-then-may_lead : goal.returns-then-may_lead
returns-then-may_lead c =
    let may : MayLead c.args.design.now c.args.p c.args.q = c.may_lead.ensures.0 c.if-may_lead.true in
    adds_as c.args.next.now.items c.note.new.rows.items (λ i x. (i ≡ c.args.p) × (x ≡ c.args.q))
    (λ i x. (i ≡ c.args.p) × (x ≡ c.args.q) × MayLead c.args.design.now i x) c.in_ok-note.ensures
    (λ i x r. (r.0, r.1, subst (λ j. MayLead c.args.design.now j x) (sym r.0) (subst (MayLead c.args.design.now c.args.p) (sym r.1) may)))
    (λ i x r. (r.0, r.1))
