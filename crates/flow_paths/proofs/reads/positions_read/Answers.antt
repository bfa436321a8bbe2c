use Rattle.std.proofs.Common.{false, refl}
use Rattle.design_meaning.specs.Spans.{is_in_any}
use Rattle.design_meaning.specs.Targets.{target_reads}
use Rattle.flow_spans.proofs.Adding.{adds_none}
use Rattle.flow_uses.proofs.Formed.{one_target}
use Rattle.flow_uses.proofs.Gathering as gathering
use Rattle.flow_paths.proofs.reads.positions_read.Goals as goal

pub loop-target-init : goal.loop-target-init
loop-target-init c = adds_none c.args.vars.now c.args.out.now.items (λ b. false) (λ b. refl)

pub target_aim-requires-clause-target : goal.target_aim-requires-clause-target
target_aim-requires-clause-target c = one_target c.args.state.now c.args.targets.now c.loop-target.target-index c.target-item.result
    c.loop-target-test.true c.target-item.is c.requires.targets

pub loop-target-preserved : goal.loop-target-preserved
loop-target-preserved c = gathering.adds_next c.args.vars.now c.args.out.now.items c.loop-target.out.items c.target_aim.new.out.items
    (λ t b. is_in_any b (target_reads t))
    c.args.targets.now c.loop-target.target-index c.target-item.result c.loop-target-test.true c.target-item.is c.loop-target.invariant
    c.in_ok-target_aim.ensures.reads

pub returns : goal.returns
returns c = gathering.adds_end c.args.vars.now c.args.out.now.items c.loop-target.out.items (λ t b. is_in_any b (target_reads t)) c.args.targets.now
    c.loop-target.target-index c.loop-target-test.false c.loop-target.invariant
