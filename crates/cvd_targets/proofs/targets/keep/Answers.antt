use Rattle.std.proofs.Common.{subst, arith}
use Rattle.cvd_targets.specs.TargetParts.{SoFar, TargetIn}
use Rattle.cvd_targets.proofs.Lists.{over, exactly}
use Rattle.cvd_targets.proofs.TargetLists.{not_before, not_one, not_wide, not_few, one_more}
use Rattle.cvd_targets.proofs.targets.keep.Goals as goal

pub returns-then-not-whole : goal.returns-then-not-whole
returns-then-not-whole c = λ d k ts t s o. not_before d k ts t (subst (λ w. SoFar d k ts w c.args.kept.now) c.if-not-whole.true s)

pub returns-in_default : goal.returns-in_default
returns-in_default c = λ d k ts t s o. not_one d k ts t (subst (TargetIn d k t) c.in_default.is o)

pub returns-then-width-gt255 : goal.returns-then-width-gt255
returns-then-width-gt255 c = λ d k ts t s o.
    not_wide d k ts t c.args.kept.now c.in-Some.one (subst (λ w. SoFar d k ts w c.args.kept.now) c.if-not-whole.false s)
    (subst (TargetIn d k t) c.in-Some.is o) (omega arith)

pub returns-then-nodes-gt-MOST : goal.returns-then-nodes-gt-MOST
returns-then-nodes-gt-MOST c = λ d k ts t s o.
    not_few d k ts t c.args.kept.now c.in-Some.one (subst (λ w. SoFar d k ts w c.args.kept.now) c.if-not-whole.false s)
    (subst (TargetIn d k t) c.in-Some.is o)
    (over c.args.kept.now.nodes c.in-Some.one.nodes _ 4194304 c.saturating_add-nodes.ensures (omega arith))

pub returns : goal.returns
returns c = λ d k ts t s o.
    one_more d k ts t c.args.kept.now c.in-Some.one (subst (λ w. SoFar d k ts w c.args.kept.now) c.if-not-whole.false s)
    (subst (TargetIn d k t) c.in-Some.is o) _ _ _ c.in_ok-push.ensures.ok (omega arith) (omega arith)
    (exactly c.args.kept.now.nodes c.in-Some.one.nodes _ 4194304 c.saturating_add-nodes.ensures (omega arith) (omega arith)) (omega arith)
