use Rattle.std.proofs.Common.{◌≡◌, ◌≢◌, subst, ℕ, List}
use Rattle.std.specs.Prelude.{Contains}
use Rattle.std.proofs.lemmas.List.{take_all}
use Rattle.flow_hubs.specs.Adding.{Adds}
use Rattle.flow_hubs.proofs.Listed.{out_none, out_more}
use Rattle.flow_hubs.proofs.hub.lead_out.Goals as goal

pub loop-q-init : goal.loop-q-init
loop-q-init c = out_none c.args.hub c.args.readers.now c.args.next.now.items

pub loop-q-preserved : goal.loop-q-preserved
loop-q-preserved c =
    out_more c.args.hub c.args.readers.now c.loop-q.q-index c.args.next.now.items c.loop-q.next.items c.lead.new.next.items c.loop-q-test.true
    c.loop-q.invariant c.in_ok-lead.ensures

pub returns : goal.returns
returns c =
    subst (λ (to : List ℕ). Adds c.args.next.now.items c.loop-q.next.items (λ i x. (i ≢ x) × (i ≡ c.args.hub) × Contains to x))
    (take_all c.loop-q.q-index c.args.readers.now c.loop-q-test.false) c.loop-q.invariant
