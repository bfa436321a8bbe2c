use Rattle.std.proofs.Common.{◌-◌, true, subst, arith}
use Rattle.std.proofs.lemmas.Result.{err_from_is_err_and}
use Rattle.design_tree.specs.declared.step.Target.{Target}
use Rattle.cvd_text.specs.Targets.{target_tokens}
use Rattle.cvd_step_laws.specs.LineMarks.{each_tokens, unchanged, with_vars}
use Rattle.cvd_targets.specs.TargetParts.{SoFar}
use Rattle.cvd_targets.proofs.Lists.{at_first, goes_on, finished, stopped}
use Rattle.cvd_targets.proofs.TargetForms.{apart_targets, target_long, some_target}
use Rattle.cvd_targets.proofs.TargetLists.{none_yet}
use Rattle.cvd_targets.proofs.targets.more_targets.Goals as goal

pub loop-left-init : goal.loop-left-init
loop-left-init c =
    at_first Target (Unit {0}) (each_tokens target_tokens) unchanged
    (λ xs. SoFar (with_vars c.args.vars.now) c.args.kind xs true (record { items = c.in_ok-items.items; width = 0; nodes = 0 })) tt c.args.cursor.now
    c.args.turns
    (none_yet (with_vars c.args.vars.now) c.args.kind _ c.in_ok-items.ensures)

pub returns-in_err-one : goal.returns-in_err-one
returns-in_err-one c = λ n bytes are most.
    let l = c.loop-left in
    let p = err_from_is_err_and c.from_residual-in_err-one.result c.from_residual-in_err-one.ensures.1 in
    rw (p.1, p.2) (stopped Target (Unit {0}) (each_tokens target_tokens) unchanged (λ u. apart_targets) some_target
    (λ xs. SoFar (with_vars c.args.vars.now) c.args.kind xs l.whole l.kept) tt c.args.cursor.now
    l.cursor _ _ c.args.turns l.left n bytes l.invariant (omega arith) are c.in_err-one.ensures)

pub loop-left-preserved : goal.loop-left-preserved
loop-left-preserved c =
    let l = c.loop-left in
    let a = c.in_ok-one.ensures in
    goes_on Target (Unit {0}) (each_tokens target_tokens) unchanged (λ xs. SoFar (with_vars c.args.vars.now) c.args.kind xs l.whole l.kept)
    (λ xs. SoFar (with_vars c.args.vars.now) c.args.kind xs c.in_ok-whole.whole c.keep.new.kept) tt c.args.cursor.now l.cursor _ c.args.turns l.left
    (l.left - 1) l.invariant a.0 a.1.0 (omega arith)
    (c.in_ok-whole.ensures (with_vars c.args.vars.now) c.args.kind l.invariant.items a.0 l.invariant.held a.1.1)

pub returns-then-whole : goal.returns-then-whole
returns-then-whole c = λ n bytes are most.
    let l = c.loop-left in
    let f =
    finished Target (Unit {0}) (each_tokens target_tokens) unchanged (λ u x. target_long x)
    (λ xs. SoFar (with_vars c.args.vars.now) c.args.kind xs l.whole l.kept) tt c.args.cursor.now
    l.cursor c.args.turns l.left n bytes l.invariant (omega arith) are most in
    (f.0, (f.1.0, subst (λ w. SoFar (with_vars c.args.vars.now) c.args.kind f.0.items w l.kept) c.if-whole.true f.1.1))

pub returns-else-whole : goal.returns-else-whole
returns-else-whole c = λ n bytes are most.
    let l = c.loop-left in
    let f =
    finished Target (Unit {0}) (each_tokens target_tokens) unchanged (λ u x. target_long x)
    (λ xs. SoFar (with_vars c.args.vars.now) c.args.kind xs l.whole l.kept) tt c.args.cursor.now
    l.cursor c.args.turns l.left n bytes l.invariant (omega arith) are most in
    (f.0, (f.1.0, subst (λ w. SoFar (with_vars c.args.vars.now) c.args.kind f.0.items w l.kept) c.if-whole.false f.1.1))
