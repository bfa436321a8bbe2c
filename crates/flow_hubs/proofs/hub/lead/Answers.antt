use Rattle.std.proofs.Common.{◌≡◌, ◌≢◌, ◌∙◌, sym}
use Rattle.flow_hubs.proofs.Growing.{adds_none, adds_as}
use Rattle.flow_hubs.proofs.hub.lead.Goals as goal

pub returns-then-from-to : goal.returns-then-from-to
returns-then-from-to c =
    adds_none c.args.next.now.items (λ i x. (i ≢ x) × (i ≡ c.args.from) × (x ≡ c.args.to)) (λ i x r. r.0 (r.1 ∙ (c.if-from-to.true ∙ sym r.2)))

pub returns : goal.returns
returns c =
    adds_as c.args.next.now.items c.note.new.rows.items (λ i x. (i ≡ c.args.from) × (x ≡ c.args.to))
    (λ i x. (i ≢ x) × (i ≡ c.args.from) × (x ≡ c.args.to)) c.in_ok-note.ensures
    (λ i x r. (λ e. c.if-from-to.false (sym r.0 ∙ (e ∙ r.1)), r.0, r.1)) (λ i x r. (r.1, r.2))
