use Rattle.std.proofs.Common.{◌≡◌, sym, subst, false, refl, take, List, length, get_or}
use Rattle.std.specs.List.{list_any}
use Rattle.std.proofs.lemmas.List.{take_all}
use Rattle.design_meaning.specs.Spans.{is_in_any}
use Rattle.design_meaning.specs.Paths.{piece_reads, item_reads}
use Rattle.flow_uses.proofs.Formed as formed
use Rattle.flow_paths.specs.Walking.{IsReady, Passes}
use Rattle.flow_paths.proofs.Passing.{ready_after, passes_none, reads_next}
use Rattle.flow_paths.proofs.reads.read_items.Goals as goal

pub loop-item-init : goal.loop-item-init
loop-item-init c = passes_none c.args.walk.now (λ b. false) (λ b. false) c.requires.ready.empty (λ b. refl) (λ b. refl)

pub read_expression-requires-clause-typed : goal.read_expression-requires-clause-typed
read_expression-requires-clause-typed c = formed.one_item c.args.state.now c.args.items.now c.loop-item.item-index c.item-item.result c.loop-item-test.true
    c.item-item.is c.requires.items

pub read_expression-requires-clause-ready : goal.read_expression-requires-clause-ready
read_expression-requires-clause-ready c = ready_after c.args.vars.now c.args.walk.now c.loop-item.walk (λ b. false)
    (λ b. list_any (λ x. is_in_any b (item_reads x)) (take c.loop-item.item-index c.args.items.now)) c.requires.ready c.loop-item.invariant

pub loop-item-preserved : goal.loop-item-preserved
loop-item-preserved c = reads_next c.args.walk.now c.loop-item.walk c.read_expression.new.walk (λ x b. is_in_any b (item_reads x)) c.args.items.now
    c.loop-item.item-index c.item-item.result
    c.loop-item-test.true c.item-item.is c.loop-item.invariant c.in_ok-read_expression.ensures

pub returns : goal.returns
returns c = subst (λ ys. Passes c.args.walk.now c.loop-item.walk (λ b. false) (λ b. list_any (λ x. is_in_any b (item_reads x)) ys))
    (take_all c.loop-item.item-index c.args.items.now c.loop-item-test.false) c.loop-item.invariant
