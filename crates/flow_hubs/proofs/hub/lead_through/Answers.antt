use Rattle.std.proofs.Common.{◌≡◌, ◌≢◌, inl, inr}
use Rattle.std.specs.Prelude.{Contains}
use Rattle.flow_hubs.specs.Hubs.{AtHub}
use Rattle.flow_hubs.proofs.Growing.{adds_more}
use Rattle.flow_hubs.proofs.hub.lead_through.Goals as goal

pub returns : goal.returns
returns c =
    adds_more c.args.next.now.items c.lead_in.new.next.items c.lead_out.new.next.items
    (λ i x. (i ≢ x) × Contains c.args.drivers.now i × (x ≡ c.args.hub)) (λ i x. (i ≢ x) × (i ≡ c.args.hub) × Contains c.args.readers.now x)
    (AtHub c.args.drivers.now c.args.readers.now c.args.hub) c.in_ok-lead_in.ensures c.in_ok-lead_out.ensures
    (λ i x r. (r.0, inl (r.1, r.2))) (λ i x r. (r.0, inr (r.1, r.2)))
    (λ i x t. elim t.1 [ inl to ↦ inl (t.0, to.0, to.1) | inr out ↦ inr (t.0, out.0, out.1) ])
