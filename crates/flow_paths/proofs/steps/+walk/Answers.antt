use Rattle.std.proofs.Common.{◌≡◌, ◌∙◌, sym, ap, subst, refl, rules, arith, ℕ, Bool, true, false, ◌||◌, ◌&&◌, List, length, take, get_or}
use Rattle.std.specs.Prelude.{IfOk}
use Rattle.std.specs.List.{list_any, list_all}
use Rattle.std.proofs.lemmas.List.{take_all, length-append}
use Rattle.std.proofs.lemmas.Result.{IfOk-weaker}
use Rattle.design_tree.specs.declared.step.StepArm.{StepArm}
use Rattle.design_tree.specs.declared.step.Step.{Step, the_lemmas}
use Rattle.circuit_run.specs.States.{Bit}
use Rattle.design_state.specs.InDesign.{IsTypedIn}
use Rattle.design_meaning.specs.Spans.{is_in_any, reads_of}
use Rattle.design_meaning.specs.Targets.{surely_names}
use Rattle.design_meaning.specs.Paths.{assign_reads, piece_reads, item_reads}
use Rattle.flow_marks.specs.declared.slot.Slot.{Slot}
use Rattle.flow_marks.specs.declared.trail.Spot.{Spot}
use Rattle.flow_marks.specs.Takes.{AreIn, is_listed}
use Rattle.flow_uses.specs.Gathers.{AreTargetsIn, ArePiecesIn, AreStepsIn, AreArmsIn}
use Rattle.flow_uses.proofs.Formed as formed
use Rattle.flow_paths.specs.declared.walk.Walk.{Walk}
use Rattle.flow_paths.specs.Walking.{IsReady, Passes, Branches, ArmBranches, IsBack, IsCommon, TakesAll, always_steps, early_steps}
use Rattle.flow_paths.proofs.Passing.{ready_after, passes_none, steps_next}
use Rattle.flow_paths.proofs.Branching.{ready_branch, branch_back, lists_inside}
use Rattle.flow_paths.proofs.StepPaths.{arms_read}
use Rattle.flow_paths.proofs.StepPasses as passes
use Rattle.flow_paths.proofs.StepPasses.{all_always, any_early}
use Rattle.flow_paths.proofs.steps.+walk.Goals as goal

pub taken_in-loop-step-init : goal.taken_in-loop-step-init
taken_in-loop-step-init t c = passes_none c.args.walk.now (λ b. false) (λ b. false) c.requires.ready.empty (λ b. refl) (λ b. refl)

pub taken_in-walk_step-requires : goal.taken_in-walk_step-requires
taken_in-walk_step-requires t c = (
  first_of (search (rules, the_lemmas), grind (arith, the_lemmas)),
  (
    c.requires.known,
    (
      formed.one_step c.args.state.now c.args.steps.now c.loop-step.step-index c.step-item.result c.loop-step-test.true c.step-item.is c.requires.steps,
      ready_after c.args.vars.now c.args.walk.now c.loop-step.walk (always_steps (take c.loop-step.step-index c.args.steps.now))
          (early_steps (take c.loop-step.step-index c.args.steps.now)) c.requires.ready c.loop-step.invariant,
    ),
  ),
)

pub taken_in-loop-step-preserved : goal.taken_in-loop-step-preserved
taken_in-loop-step-preserved t c = steps_next c.args.walk.now c.loop-step.walk c.walk_step.new.walk c.args.steps.now c.loop-step.step-index c.step-item.result
    c.loop-step-test.true c.step-item.is c.loop-step.invariant c.in_ok-walk_step.ensures

pub taken_in-put_back-requires-clause-inside : goal.taken_in-put_back-requires-clause-inside
taken_in-put_back-requires-clause-inside t c =
    (ready_after c.args.vars.now c.args.walk.now c.loop-step.walk (always_steps (take c.loop-step.step-index c.args.steps.now))
    (early_steps (take c.loop-step.step-index c.args.steps.now)) c.requires.ready c.loop-step.invariant).trail

pub taken_in-put_back-requires-clause-length : goal.taken_in-put_back-requires-clause-length
taken_in-put_back-requires-clause-length t c = omega (
  arith,
  c.len-from.ensures,
  c.args.walk.now.trail.ok.0,
  ap length c.loop-step.invariant.takes.trails,
  length-append c.args.walk.now.trail.items c.loop-step.invariant.takes.more,
)

pub taken_in-returns : goal.taken_in-returns
taken_in-returns t c = IfOk-weaker c.put_back.result (λ taken. IsBack c.loop-step.walk c.put_back.new.walk c.len-from.result taken.items)
    (λ taken. Branches c.args.walk.now c.put_back.new.walk taken.items (always_steps c.args.steps.now) (early_steps c.args.steps.now)) (λ taken back.
    let from : c.len-from.result ≡ length c.args.walk.now.trail.items = omega (arith, c.len-from.ensures, c.args.walk.now.trail.ok.0) in
    branch_back c.args.walk.now c.loop-step.walk c.put_back.new.walk c.len-from.result taken.items (always_steps c.args.steps.now)
    (early_steps c.args.steps.now) from
    (subst (λ xs. Passes c.args.walk.now c.loop-step.walk (always_steps xs) (early_steps xs))
    (take_all c.loop-step.step-index c.args.steps.now c.loop-step-test.false) c.loop-step.invariant)
    back) c.put_back.ensures

pub taken_in_arm-taken_in-requires : goal.taken_in_arm-taken_in-requires
taken_in_arm-taken_in-requires t c = (
  first_of (search (rules, the_lemmas), grind (arith, the_lemmas)),
  (
    c.requires.known,
    (
      subst (AreStepsIn c.args.state.now) (sym c.as_slice.ensures) (formed.arm_body c.args.state.now c.args.arm.now c.requires.arm),
      c.requires.ready,
    ),
  ),
)

pub taken_in_arm-returns : goal.taken_in_arm-returns
taken_in_arm-returns t c = subst
    (λ xs. IfOk c.taken_in.result (λ taken. Branches c.args.walk.now c.taken_in.new.walk taken.items (always_steps xs) (early_steps xs))) c.as_slice.ensures
    c.taken_in.ensures

pub taken_in_arms-loop-arm-init : goal.taken_in_arms-loop-arm-init
taken_in_arms-loop-arm-init t c = passes.arms_none c.args.walk.now c.args.first.items c.requires.ready.empty c.requires.first

pub taken_in_arms-taken_in_arm-requires : goal.taken_in_arms-taken_in_arm-requires
taken_in_arms-taken_in_arm-requires t c = (
  first_of (search (rules, the_lemmas), grind (arith, the_lemmas)),
  (
    c.requires.known,
    (
      formed.one_arm c.args.state.now c.args.arms.now c.loop-arm.arm-index c.arm-item.result c.loop-arm-test.true c.arm-item.is c.requires.arms,
      ready_branch c.args.vars.now c.args.walk.now c.loop-arm.walk c.loop-arm.all.items
          (λ b. is_listed c.args.first.items b && all_always (take c.loop-arm.arm-index c.args.arms.now) b)
          (any_early (take c.loop-arm.arm-index c.args.arms.now)) c.requires.ready c.loop-arm.invariant,
    ),
  ),
)

pub taken_in_arms-common-requires-clause-empty : goal.taken_in_arms-common-requires-clause-empty
taken_in_arms-common-requires-clause-empty t c = c.in_ok-taken.ensures.empty

pub taken_in_arms-common-requires-clause-one : goal.taken_in_arms-common-requires-clause-one
taken_in_arms-common-requires-clause-one t c = subst (λ z. AreIn c.taken_in_arm.new.walk.spare.slots z) (sym c.as_slice.ensures.value)
    (lists_inside c.args.vars.now c.args.walk.now c.loop-arm.walk c.taken_in_arm.new.walk c.loop-arm.all.items c.in_ok-taken.taken.items
    (λ b. is_listed c.args.first.items b && all_always (take c.loop-arm.arm-index c.args.arms.now) b) (always_steps c.arm-item.result.body)
    (any_early (take c.loop-arm.arm-index c.args.arms.now)) (early_steps c.arm-item.result.body) c.requires.ready c.loop-arm.invariant c.in_ok-taken.ensures).0

pub taken_in_arms-common-requires-clause-other : goal.taken_in_arms-common-requires-clause-other
taken_in_arms-common-requires-clause-other t c = subst (λ z. AreIn c.taken_in_arm.new.walk.spare.slots z) (sym c.as_slice-in-loop-arm.ensures.value)
    (lists_inside c.args.vars.now c.args.walk.now c.loop-arm.walk c.taken_in_arm.new.walk c.loop-arm.all.items c.in_ok-taken.taken.items
    (λ b. is_listed c.args.first.items b && all_always (take c.loop-arm.arm-index c.args.arms.now) b) (always_steps c.arm-item.result.body)
    (any_early (take c.loop-arm.arm-index c.args.arms.now)) (early_steps c.arm-item.result.body) c.requires.ready c.loop-arm.invariant c.in_ok-taken.ensures).1

pub taken_in_arms-loop-arm-preserved : goal.taken_in_arms-loop-arm-preserved
taken_in_arms-loop-arm-preserved t c = passes.arms_next c.args.vars.now c.args.walk.now c.loop-arm.walk c.taken_in_arm.new.walk (record {
  left = c.taken_in_arm.new.walk.left;
  spare = c.common.new.spare;
  trail = c.taken_in_arm.new.walk.trail;
  early = c.taken_in_arm.new.walk.early;
}) c.args.first.items c.loop-arm.all.items c.in_ok-taken.taken.items c.in_ok-all.all.items c.args.arms.now c.loop-arm.arm-index c.arm-item.result
    c.loop-arm-test.true c.arm-item.is
    c.requires.ready c.loop-arm.invariant c.in_ok-taken.ensures refl refl refl
    (subst (λ z. IsCommon c.taken_in_arm.new.walk.spare c.common.new.spare c.loop-arm.all.items z c.in_ok-all.all.items) c.as_slice-in-loop-arm.ensures.value
    (subst (λ z. IsCommon c.taken_in_arm.new.walk.spare c.common.new.spare z c.as_slice-in-loop-arm.result.now c.in_ok-all.all.items)
    c.as_slice.ensures.value c.in_ok-all.ensures))

pub taken_in_arms-returns : goal.taken_in_arms-returns
taken_in_arms-returns t c = record {
  branches = subst (λ (xs : List StepArm). Branches c.args.walk.now c.loop-arm.walk c.loop-arm.all.items
      (λ b. is_listed c.args.first.items b && all_always xs b) (any_early xs))
      (take_all c.loop-arm.arm-index c.args.arms.now c.loop-arm-test.false) c.loop-arm.invariant;
}

pub walk_step-read_assignment-requires-clause-targets : goal.walk_step-read_assignment-requires-clause-targets
walk_step-read_assignment-requires-clause-targets t c = subst (AreTargetsIn c.args.state.now) (sym c.as_slice.ensures)
    (formed.set_targets c.args.state.now c.in-Set.targets c.in-Set.value (rw c.in-Set.is at c.requires.step))

pub walk_step-read_assignment-requires-clause-typed : goal.walk_step-read_assignment-requires-clause-typed
walk_step-read_assignment-requires-clause-typed t c = formed.set_value c.args.state.now c.in-Set.targets c.in-Set.value (rw c.in-Set.is at c.requires.step)

pub walk_step-read_assignment-requires-in-Later-clause-targets : goal.walk_step-read_assignment-requires-in-Later-clause-targets
walk_step-read_assignment-requires-in-Later-clause-targets t c = subst (AreTargetsIn c.args.state.now) (sym c.as_slice-in-Later.ensures)
    (formed.later_targets c.args.state.now c.in-Later.targets c.in-Later.value (rw c.in-Later.is at c.requires.step))

pub walk_step-read_assignment-requires-in-Later-clause-typed : goal.walk_step-read_assignment-requires-in-Later-clause-typed
walk_step-read_assignment-requires-in-Later-clause-typed t c = formed.later_value c.args.state.now c.in-Later.targets c.in-Later.value
    (rw c.in-Later.is at c.requires.step)

pub walk_step-take_targets-requires-clause-targets : goal.walk_step-take_targets-requires-clause-targets
walk_step-take_targets-requires-clause-targets t c = subst (AreTargetsIn c.args.state.now) (sym c.as_slice-in-Set.ensures)
    (formed.set_targets c.args.state.now c.in-Set.targets c.in-Set.value (rw c.in-Set.is at c.requires.step))

pub walk_step-take_targets-requires-clause-ready : goal.walk_step-take_targets-requires-clause-ready
walk_step-take_targets-requires-clause-ready t c = ready_after c.args.vars.now c.args.walk.now c.read_assignment.new.walk (λ b. false)
    (λ b. is_in_any b (assign_reads c.as_slice.result.now c.in-Set.value)) c.requires.ready
    c.in_ok-read_assignment-in-Set.ensures

pub walk_step-returns-in-Set : goal.walk_step-returns-in-Set
walk_step-returns-in-Set t c = passes.set_passes c.args.walk.now c.read_assignment.new.walk c.take_targets.new.walk c.in-Set.targets c.in-Set.value
    c.args.step.now c.in-Set.is
    (subst (λ ts. Passes c.args.walk.now c.read_assignment.new.walk (λ b. false) (λ b. is_in_any b (assign_reads ts c.in-Set.value))) c.as_slice.ensures
    c.in_ok-read_assignment-in-Set.ensures)
    (subst (λ ts. Passes c.read_assignment.new.walk c.take_targets.new.walk (λ b. list_any (surely_names b) ts) (λ b. false)) c.as_slice-in-Set.ensures
    c.in_ok-take_targets-in-Set.ensures)

pub walk_step-returns-in-Later : goal.walk_step-returns-in-Later
walk_step-returns-in-Later t c = passes.later_passes c.args.walk.now c.read_assignment-in-Later.new.walk c.in-Later.targets c.in-Later.value c.args.step.now
    c.in-Later.is
    (subst (λ ts. Passes c.args.walk.now c.read_assignment-in-Later.new.walk (λ b. false) (λ b. is_in_any b (assign_reads ts c.in-Later.value)))
    c.as_slice-in-Later.ensures
    c.in_ok-read_assignment-in-Later.ensures)

pub walk_step-read_expression-requires-clause-typed : goal.walk_step-read_expression-requires-clause-typed
walk_step-read_expression-requires-clause-typed t c = formed.if_test c.args.state.now c.in-If.test c.in-If.yes c.in-If.no (rw c.in-If.is at c.requires.step)

pub walk_step-taken_in-requires : goal.walk_step-taken_in-requires
walk_step-taken_in-requires t c = (
  first_of (search (rules, the_lemmas), grind (arith, the_lemmas)),
  (
    c.requires.known,
    (
      subst (AreStepsIn c.args.state.now) (sym c.as_slice-in-If.ensures)
          (formed.if_left c.args.state.now c.in-If.test c.in-If.yes c.in-If.no (rw c.in-If.is at c.requires.step)),
      ready_after c.args.vars.now c.args.walk.now
          c.read_expression.new.walk (λ b. false) (λ b. is_in_any b (reads_of c.in-If.test)) c.requires.ready c.in_ok-read_expression-in-If.ensures,
    ),
  ),
)

pub walk_step-taken_in-requires-in-If : goal.walk_step-taken_in-requires-in-If
walk_step-taken_in-requires-in-If t c = (
  first_of (search (rules, the_lemmas), grind (arith, the_lemmas)),
  (
    c.requires.known,
    (
      subst (AreStepsIn c.args.state.now) (sym c.as_slice-in-If-2.ensures)
          (formed.if_right c.args.state.now c.in-If.test c.in-If.yes c.in-If.no (rw c.in-If.is at c.requires.step)),
      ready_branch c.args.vars.now
          c.read_expression.new.walk c.taken_in.new.walk c.in_ok-one-in-If.one.items (always_steps c.as_slice-in-If.result.now)
          (early_steps c.as_slice-in-If.result.now)
          (ready_after c.args.vars.now c.args.walk.now c.read_expression.new.walk (λ b. false) (λ b. is_in_any b (reads_of c.in-If.test)) c.requires.ready
          c.in_ok-read_expression-in-If.ensures) c.in_ok-one-in-If.ensures,
    ),
  ),
)

pub walk_step-common-requires-clause-empty : goal.walk_step-common-requires-clause-empty
walk_step-common-requires-clause-empty t c = c.in_ok-other-in-If.ensures.empty

pub walk_step-common-requires-clause-one : goal.walk_step-common-requires-clause-one
walk_step-common-requires-clause-one t c = subst (λ z. AreIn c.taken_in-in-If.new.walk.spare.slots z) (sym c.as_slice-in-If-3.ensures.value)
    (lists_inside c.args.vars.now c.read_expression.new.walk c.taken_in.new.walk c.taken_in-in-If.new.walk c.in_ok-one-in-If.one.items
    c.in_ok-other-in-If.other.items (always_steps c.as_slice-in-If.result.now) (always_steps c.as_slice-in-If-2.result.now)
    (early_steps c.as_slice-in-If.result.now) (early_steps c.as_slice-in-If-2.result.now)
    (ready_after c.args.vars.now c.args.walk.now c.read_expression.new.walk (λ b. false) (λ b. is_in_any b (reads_of c.in-If.test)) c.requires.ready
    c.in_ok-read_expression-in-If.ensures) c.in_ok-one-in-If.ensures c.in_ok-other-in-If.ensures).0

pub walk_step-common-requires-clause-other : goal.walk_step-common-requires-clause-other
walk_step-common-requires-clause-other t c = subst (λ z. AreIn c.taken_in-in-If.new.walk.spare.slots z) (sym c.as_slice-in-If-4.ensures.value)
    (lists_inside c.args.vars.now c.read_expression.new.walk c.taken_in.new.walk c.taken_in-in-If.new.walk c.in_ok-one-in-If.one.items
    c.in_ok-other-in-If.other.items (always_steps c.as_slice-in-If.result.now) (always_steps c.as_slice-in-If-2.result.now)
    (early_steps c.as_slice-in-If.result.now) (early_steps c.as_slice-in-If-2.result.now)
    (ready_after c.args.vars.now c.args.walk.now c.read_expression.new.walk (λ b. false) (λ b. is_in_any b (reads_of c.in-If.test)) c.requires.ready
    c.in_ok-read_expression-in-If.ensures) c.in_ok-one-in-If.ensures c.in_ok-other-in-If.ensures).1

pub walk_step-take_all-requires : goal.walk_step-take_all-requires
walk_step-take_all-requires t c =
    let ready : IsReady c.args.vars.now c.taken_in-in-If.new.walk =
    ready_branch c.args.vars.now c.taken_in.new.walk c.taken_in-in-If.new.walk c.in_ok-other-in-If.other.items
    (always_steps c.as_slice-in-If-2.result.now) (early_steps c.as_slice-in-If-2.result.now)
    (ready_branch c.args.vars.now c.read_expression.new.walk c.taken_in.new.walk c.in_ok-one-in-If.one.items
    (always_steps c.as_slice-in-If.result.now) (early_steps c.as_slice-in-If.result.now)
    (ready_after c.args.vars.now c.args.walk.now c.read_expression.new.walk (λ b. false) (λ b. is_in_any b (reads_of c.in-If.test))
    c.requires.ready c.in_ok-read_expression-in-If.ensures) c.in_ok-one-in-If.ensures) c.in_ok-other-in-If.ensures in
    subst (λ z. AreIn c.taken_in-in-If.new.walk.left.slots z) (sym c.as_slice-in-If-5.ensures.value)
    (subst (λ (z : List Slot). AreIn z c.in_ok-both-in-If.both.items) (ready.spare ∙ sym ready.left) c.in_ok-both-in-If.ensures.inside)

pub walk_step-returns-in-If : goal.walk_step-returns-in-If
walk_step-returns-in-If t c = passes.if_passes c.args.vars.now c.args.walk.now c.read_expression.new.walk c.taken_in.new.walk c.taken_in-in-If.new.walk
    (record {
      left = c.taken_in-in-If.new.walk.left;
      spare = c.common.new.spare;
      trail = c.taken_in-in-If.new.walk.trail;
      early =
          c.taken_in-in-If.new.walk.early;
    }) c.take_all.new.walk
    c.in_ok-one-in-If.one.items c.in_ok-other-in-If.other.items c.in_ok-both-in-If.both.items c.in-If.test c.in-If.yes c.in-If.no c.args.step.now c.in-If.is
    (ready_after c.args.vars.now c.args.walk.now c.read_expression.new.walk (λ b. false) (λ b. is_in_any b (reads_of c.in-If.test)) c.requires.ready
    c.in_ok-read_expression-in-If.ensures)
    c.in_ok-read_expression-in-If.ensures
    (subst (λ xs. Branches c.read_expression.new.walk c.taken_in.new.walk c.in_ok-one-in-If.one.items (always_steps xs) (early_steps xs))
    c.as_slice-in-If.ensures c.in_ok-one-in-If.ensures)
    (subst (λ xs. Branches c.taken_in.new.walk c.taken_in-in-If.new.walk c.in_ok-other-in-If.other.items (always_steps xs) (early_steps xs))
    c.as_slice-in-If-2.ensures c.in_ok-other-in-If.ensures)
    refl refl refl (subst (λ z. IsCommon c.taken_in-in-If.new.walk.spare c.common.new.spare c.in_ok-one-in-If.one.items z c.in_ok-both-in-If.both.items)
    c.as_slice-in-If-4.ensures.value
    (subst (λ z. IsCommon c.taken_in-in-If.new.walk.spare c.common.new.spare z c.as_slice-in-If-4.result.now c.in_ok-both-in-If.both.items)
    c.as_slice-in-If-3.ensures.value c.in_ok-both-in-If.ensures))
    (subst (λ z. TakesAll (record {
      left = c.taken_in-in-If.new.walk.left;
      spare = c.common.new.spare;
      trail = c.taken_in-in-If.new.walk.trail;
      early =
          c.taken_in-in-If.new.walk.early;
    }) c.take_all.new.walk z) c.as_slice-in-If-5.ensures.value c.in_ok-take_all-in-If.ensures)

pub walk_step-read_expression-requires-in-Case-clause-typed : goal.walk_step-read_expression-requires-in-Case-clause-typed
walk_step-read_expression-requires-in-Case-clause-typed t c = formed.case_on c.args.state.now c.in-Case.on c.in-Case.arms c.in-Case.rest
    (rw c.in-Case.is at c.requires.step)

pub walk_step-read_arms-requires-clause-arms : goal.walk_step-read_arms-requires-clause-arms
walk_step-read_arms-requires-clause-arms t c = subst (AreArmsIn c.args.state.now) (sym c.as_slice-in-Case.ensures)
    (formed.case_arms c.args.state.now c.in-Case.on c.in-Case.arms c.in-Case.rest (rw c.in-Case.is at c.requires.step))

pub walk_step-read_arms-requires-clause-ready : goal.walk_step-read_arms-requires-clause-ready
walk_step-read_arms-requires-clause-ready t c = ready_after c.args.vars.now c.args.walk.now c.read_expression-in-Case.new.walk (λ b. false)
    (λ b. is_in_any b (reads_of c.in-Case.on)) c.requires.ready c.in_ok-read_expression-in-Case.ensures

pub walk_step-taken_in-requires-in-Case : goal.walk_step-taken_in-requires-in-Case
walk_step-taken_in-requires-in-Case t c = (
  first_of (search (rules, the_lemmas), grind (arith, the_lemmas)),
  (
    c.requires.known,
    (
      subst (AreStepsIn c.args.state.now) (sym c.as_slice-in-Case-2.ensures)
          (formed.case_rest c.args.state.now c.in-Case.on c.in-Case.arms c.in-Case.rest (rw c.in-Case.is at c.requires.step)),
      ready_after c.args.vars.now
          c.read_expression-in-Case.new.walk c.read_arms.new.walk (λ b. false) (λ b. arms_read b c.as_slice-in-Case.result.now)
          (ready_after c.args.vars.now c.args.walk.now c.read_expression-in-Case.new.walk (λ b. false) (λ b. is_in_any b (reads_of c.in-Case.on))
          c.requires.ready c.in_ok-read_expression-in-Case.ensures) c.in_ok-read_arms-in-Case.ensures,
    ),
  ),
)

pub walk_step-taken_in_arms-requires : goal.walk_step-taken_in_arms-requires
walk_step-taken_in_arms-requires t c = (
  first_of (search (rules, the_lemmas), grind (arith, the_lemmas)),
  (
    c.requires.known,
    (
      subst (AreArmsIn c.args.state.now) (sym c.as_slice-in-Case-3.ensures)
          (formed.case_arms c.args.state.now c.in-Case.on c.in-Case.arms c.in-Case.rest (rw c.in-Case.is at c.requires.step)),
      (
        ready_branch c.args.vars.now c.read_arms.new.walk c.taken_in-in-Case.new.walk c.in_ok-first-in-Case.first.items
            (always_steps c.as_slice-in-Case-2.result.now) (early_steps c.as_slice-in-Case-2.result.now)
            (ready_after c.args.vars.now c.read_expression-in-Case.new.walk c.read_arms.new.walk (λ b. false) (λ b. arms_read b c.as_slice-in-Case.result.now)
            (ready_after c.args.vars.now c.args.walk.now c.read_expression-in-Case.new.walk (λ b. false) (λ b. is_in_any b (reads_of c.in-Case.on))
            c.requires.ready c.in_ok-read_expression-in-Case.ensures) c.in_ok-read_arms-in-Case.ensures) c.in_ok-first-in-Case.ensures,
        subst
            (λ (z : List Slot). AreIn z c.in_ok-first-in-Case.first.items) (sym c.in_ok-first-in-Case.ensures.left_slots) c.in_ok-first-in-Case.ensures.inside,
      ),
    ),
  ),
)

pub walk_step-take_all-requires-in-Case : goal.walk_step-take_all-requires-in-Case
walk_step-take_all-requires-in-Case t c = subst (λ z. AreIn c.taken_in_arms.new.walk.left.slots z) (sym c.as_slice-in-Case-4.ensures.value)
    (subst (λ (z : List Slot). AreIn z c.in_ok-all-in-Case.all.items) (sym c.in_ok-all-in-Case.ensures.branches.left_slots)
    c.in_ok-all-in-Case.ensures.branches.inside)

pub walk_step-returns-in-Case : goal.walk_step-returns-in-Case
walk_step-returns-in-Case t c = passes.case_passes c.args.walk.now c.read_expression-in-Case.new.walk c.read_arms.new.walk c.taken_in-in-Case.new.walk
    c.taken_in_arms.new.walk c.take_all-in-Case.new.walk c.in_ok-first-in-Case.first.items c.in_ok-all-in-Case.all.items
    c.in-Case.on c.in-Case.arms c.in-Case.rest c.args.step.now c.in-Case.is c.in_ok-read_expression-in-Case.ensures
    (subst (λ xs. Passes c.read_expression-in-Case.new.walk c.read_arms.new.walk (λ b. false) (λ b. arms_read b xs)) c.as_slice-in-Case.ensures
    c.in_ok-read_arms-in-Case.ensures)
    (subst (λ xs. Branches c.read_arms.new.walk c.taken_in-in-Case.new.walk c.in_ok-first-in-Case.first.items (always_steps xs) (early_steps xs))
    c.as_slice-in-Case-2.ensures c.in_ok-first-in-Case.ensures)
    (subst (λ xs. Branches c.taken_in-in-Case.new.walk c.taken_in_arms.new.walk c.in_ok-all-in-Case.all.items
    (λ b. is_listed c.in_ok-first-in-Case.first.items b && all_always xs b) (any_early xs)) c.as_slice-in-Case-3.ensures
    c.in_ok-all-in-Case.ensures.branches)
    (subst (λ z. TakesAll c.taken_in_arms.new.walk c.take_all-in-Case.new.walk z) c.as_slice-in-Case-4.ensures.value c.in_ok-take_all-in-Case.ensures)

pub walk_step-read_pieces-requires-clause-pieces : goal.walk_step-read_pieces-requires-clause-pieces
walk_step-read_pieces-requires-clause-pieces t c = subst (ArePiecesIn c.args.state.now) (sym c.as_slice-in-Show.ensures)
    (formed.show_pieces c.args.state.now c.in-Show.pieces (rw c.in-Show.is at c.requires.step))

pub walk_step-returns-in-Show : goal.walk_step-returns-in-Show
walk_step-returns-in-Show t c = passes.show_passes c.args.walk.now c.read_pieces.new.walk c.in-Show.pieces c.args.step.now c.in-Show.is
    (subst (λ xs. Passes c.args.walk.now c.read_pieces.new.walk (λ b. false) (λ b. list_any (λ p. is_in_any b (piece_reads p)) xs))
    c.as_slice-in-Show.ensures c.in_ok-read_pieces-in-Show.ensures)

pub walk_step-returns-in-Finish : goal.walk_step-returns-in-Finish
walk_step-returns-in-Finish t c = passes.finish_passes c.args.walk.now c.args.step.now c.in-Finish.is c.requires.ready.empty

pub walk_step-returns-in-Stop : goal.walk_step-returns-in-Stop
walk_step-returns-in-Stop t c = passes.stop_passes c.args.walk.now c.args.step.now c.in-Stop.is c.requires.ready.empty

pub walk_step-returns-in-Count : goal.walk_step-returns-in-Count
walk_step-returns-in-Count t c = passes.count_passes c.args.walk.now c.in-Count.counter c.args.step.now c.in-Count.is c.requires.ready.empty
