use Rattle.std.proofs.Common.{◌≡◌, sym, subst, false, refl, take, List, length, get_or}
use Rattle.std.specs.List.{list_any}
use Rattle.std.proofs.lemmas.List.{take_all}
use Rattle.design_meaning.specs.Spans.{is_in_any}
use Rattle.design_meaning.specs.Paths.{piece_reads, item_reads}
use Rattle.flow_uses.specs.Gathers.{AreItemsIn}
use Rattle.flow_uses.proofs.Formed as formed
use Rattle.flow_paths.specs.Walking.{IsReady, Passes}
use Rattle.flow_paths.proofs.Passing.{ready_after, passes_none, reads_next}
use Rattle.flow_paths.proofs.reads.read_arms.Goals as goal

pub loop-arm-init : goal.loop-arm-init
loop-arm-init c = passes_none c.args.walk.now (λ b. false) (λ b. false) c.requires.ready.empty (λ b. refl) (λ b. refl)

pub read_items-requires-clause-items : goal.read_items-requires-clause-items
read_items-requires-clause-items c = subst (AreItemsIn c.args.state.now) (sym c.as_slice.ensures)
    (formed.arm_items c.args.state.now c.arm-item.result
    (formed.one_arm c.args.state.now c.args.arms.now c.loop-arm.arm-index c.arm-item.result c.loop-arm-test.true c.arm-item.is c.requires.arms))

pub read_items-requires-clause-ready : goal.read_items-requires-clause-ready
read_items-requires-clause-ready c = ready_after c.args.vars.now c.args.walk.now c.loop-arm.walk (λ b. false)
    (λ b. list_any (λ x. list_any (λ item. is_in_any b (item_reads item)) x.items) (take c.loop-arm.arm-index c.args.arms.now)) c.requires.ready
    c.loop-arm.invariant

pub loop-arm-preserved : goal.loop-arm-preserved
loop-arm-preserved c = reads_next c.args.walk.now c.loop-arm.walk c.read_items.new.walk (λ x b. list_any (λ item. is_in_any b (item_reads item)) x.items)
    c.args.arms.now c.loop-arm.arm-index c.arm-item.result
    c.loop-arm-test.true c.arm-item.is c.loop-arm.invariant
    (subst (λ items. Passes c.loop-arm.walk c.read_items.new.walk (λ b. false) (λ b. list_any (λ item. is_in_any b (item_reads item)) items))
    c.as_slice.ensures c.in_ok-read_items.ensures)

pub returns : goal.returns
returns c = subst (λ ys. Passes c.args.walk.now c.loop-arm.walk (λ b. false)
    (λ b. list_any (λ x. list_any (λ item. is_in_any b (item_reads item)) x.items) ys)) (take_all c.loop-arm.arm-index c.args.arms.now c.loop-arm-test.false)
    c.loop-arm.invariant
