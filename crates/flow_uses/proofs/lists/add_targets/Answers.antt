use Rattle.std.proofs.Common.{◌==◌, false, refl}
use Rattle.design_meaning.specs.Spans.{is_in_any}
use Rattle.design_meaning.specs.Targets.{var_named, names_bit, target_reads}
use Rattle.flow_spans.proofs.Adding.{adds_none}
use Rattle.flow_uses.proofs.Formed.{one_target}
use Rattle.flow_uses.proofs.Gathering as gathering
use Rattle.flow_uses.proofs.lists.add_targets.Goals as goal

pub loop-target-init : goal.loop-target-init
loop-target-init c = record {
  reads = adds_none c.args.vars.now c.args.reads.now.items (λ b. false) (λ b. refl);
  named = gathering.named_none c.args.vars.now c.args.named.now.items (λ b. false) (λ v. false) (λ b. refl) (λ v. refl);
}

pub add_target-requires-clause-target : goal.add_target-requires-clause-target
add_target-requires-clause-target c = one_target c.args.state.now c.args.targets.now c.loop-target.target-index c.target-item.result
    c.loop-target-test.true c.target-item.is c.requires.targets

pub loop-target-preserved : goal.loop-target-preserved
loop-target-preserved c = record {
  reads = gathering.adds_next c.args.vars.now c.args.reads.now.items c.loop-target.reads.items c.add_target.new.reads.items (λ t b. is_in_any b
      (target_reads t))
      c.args.targets.now c.loop-target.target-index c.target-item.result c.loop-target-test.true c.target-item.is c.loop-target.invariant.reads
      c.in_ok-add_target.ensures.reads;
  named = gathering.named_next c.args.vars.now c.args.named.now.items c.loop-target.named.items c.add_target.new.named.items (λ t b. names_bit b t) (λ t v.
      var_named t == v)
      c.args.targets.now c.loop-target.target-index c.target-item.result c.loop-target-test.true c.target-item.is c.loop-target.invariant.named
      c.in_ok-add_target.ensures.named;
}

pub returns-clause-reads : goal.returns-clause-reads
returns-clause-reads c = gathering.adds_end c.args.vars.now c.args.reads.now.items c.loop-target.reads.items (λ t b. is_in_any b (target_reads t))
    c.args.targets.now c.loop-target.target-index
    c.loop-target-test.false c.loop-target.invariant.reads

pub returns-clause-named : goal.returns-clause-named
returns-clause-named c = gathering.named_end c.args.vars.now c.args.named.now.items c.loop-target.named.items (λ t b. names_bit b t) (λ t v. var_named t ==
    v) c.args.targets.now c.loop-target.target-index
    c.loop-target-test.false c.loop-target.invariant.named
