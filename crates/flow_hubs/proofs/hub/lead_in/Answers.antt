use Rattle.std.proofs.Common.{◌≡◌, ◌≢◌, subst, ℕ, List}
use Rattle.std.specs.Prelude.{Contains}
use Rattle.std.proofs.lemmas.List.{take_all}
use Rattle.flow_hubs.specs.Adding.{Adds}
use Rattle.flow_hubs.proofs.Listed.{in_none, in_more}
use Rattle.flow_hubs.proofs.hub.lead_in.Goals as goal

pub loop-p-init : goal.loop-p-init
loop-p-init c = in_none c.args.drivers.now c.args.hub c.args.next.now.items

pub loop-p-preserved : goal.loop-p-preserved
loop-p-preserved c =
    in_more c.args.drivers.now c.args.hub c.loop-p.p-index c.args.next.now.items c.loop-p.next.items c.lead.new.next.items c.loop-p-test.true
    c.loop-p.invariant c.in_ok-lead.ensures

pub returns : goal.returns
returns c =
    subst (λ (from : List ℕ). Adds c.args.next.now.items c.loop-p.next.items (λ i x. (i ≢ x) × Contains from i × (x ≡ c.args.hub)))
    (take_all c.loop-p.p-index c.args.drivers.now c.loop-p-test.false) c.loop-p.invariant
