use Rattle.std.proofs.Common.{◌≡◌, sym, subst, false, refl, take, List, length, get_or}
use Rattle.std.specs.List.{list_any}
use Rattle.std.proofs.lemmas.List.{take_all}
use Rattle.design_meaning.specs.Targets.{surely_names}
use Rattle.flow_uses.proofs.Formed as formed
use Rattle.flow_paths.specs.Walking.{IsReady, Passes}
use Rattle.flow_paths.proofs.Passing.{ready_after, passes_none, writes_next}
use Rattle.flow_paths.proofs.targets.take_targets.Goals as goal

pub loop-target-init : goal.loop-target-init
loop-target-init c = passes_none c.args.walk.now (λ b. false) (λ b. false) c.requires.ready.empty (λ b. refl) (λ b. refl)

pub take_target-requires-clause-target : goal.take_target-requires-clause-target
take_target-requires-clause-target c = formed.one_target c.args.state.now c.args.targets.now c.loop-target.target-index c.target-item.result
    c.loop-target-test.true c.target-item.is c.requires.targets

pub take_target-requires-clause-ready : goal.take_target-requires-clause-ready
take_target-requires-clause-ready c = ready_after c.args.vars.now c.args.walk.now c.loop-target.walk
    (λ b. list_any (λ x. surely_names b x) (take c.loop-target.target-index c.args.targets.now)) (λ b. false) c.requires.ready c.loop-target.invariant

pub loop-target-preserved : goal.loop-target-preserved
loop-target-preserved c = writes_next c.args.walk.now c.loop-target.walk c.take_target.new.walk (λ x b. surely_names b x) c.args.targets.now
    c.loop-target.target-index c.target-item.result
    c.loop-target-test.true c.target-item.is c.loop-target.invariant c.in_ok-take_target.ensures

pub returns : goal.returns
returns c = subst (λ ys. Passes c.args.walk.now c.loop-target.walk (λ b. list_any (λ x. surely_names b x) ys) (λ b. false))
    (take_all c.loop-target.target-index c.args.targets.now c.loop-target-test.false) c.loop-target.invariant
