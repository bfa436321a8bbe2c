use Rattle.std.proofs.Common.{◌∙◌, ap, sym, subst, ◌+◌, arith, rules, drop}
use Rattle.std.specs.List.{list_all}
use Rattle.std.proofs.lemmas.Result.{IfOk-weaker}
use Rattle.design_tree.specs.declared.step.Step.{the_lemmas}
use Rattle.design_meaning.specs.Widths.{width_of}
use Rattle.design_meaning.specs.WellFormed.{is_step, is_item}
use Rattle.design_meaning.proofs.ListLaws.{left_true, right_true}
use Rattle.design_state.proofs.Turns.{drop_here}
use Rattle.flat_design.specs.InDesign.{mentions_in}
use Rattle.flat_design.specs.Needed.{room_seen, StepsIn, ArmsIn, arm_mentions_in, arm_at}
use Rattle.flat_design.proofs.Rooms.{sum_none}
use Rattle.flat_design.proofs.NeedLaws.{set_need, later_need, show_need, show_formed, if_need, case_need, arm_need, one_need}
use Rattle.flat_design.proofs.NeedsIn as inside
use Rattle.flat_design.proofs.needs.+needs.Goals as goal

pub step_needs-returns-in-Set : goal.step_needs-returns-in-Set
step_needs-returns-in-Set t c d k of ok =
    c.updates_need.ensures ∙ ap (λ n. record { updates = n; bytes = 0; counters = 0 }) c.len.ensures
    ∙ rw c.in-Set.is (set_need d c.in-Set.targets c.in-Set.value)

pub step_needs-returns-in-Later : goal.step_needs-returns-in-Later
step_needs-returns-in-Later t c d k of ok =
    c.updates_need-in-Later.ensures ∙ ap (λ n. record { updates = n; bytes = 0; counters = 0 }) c.len-in-Later.ensures
    ∙ rw c.in-Later.is (later_need d c.in-Later.targets c.in-Later.value)

pub step_needs-steps_need-requires : goal.step_needs-steps_need-requires
step_needs-steps_need-requires t c = (
  first_of (search (rules, the_lemmas), grind (arith, the_lemmas)),
  subst (StepsIn c.args.state.now) (sym c.as_slice.ensures)
      (inside.left_steps c.args.state.now c.in-If.test c.in-If.yes c.in-If.no (rw c.in-If.is at c.requires)),
)

pub step_needs-steps_need-requires-in-If : goal.step_needs-steps_need-requires-in-If
step_needs-steps_need-requires-in-If t c = (
  first_of (search (rules, the_lemmas), grind (arith, the_lemmas)),
  subst (StepsIn c.args.state.now) (sym c.as_slice-in-If.ensures)
      (inside.right_steps c.args.state.now c.in-If.test c.in-If.yes c.in-If.no (rw c.in-If.is at c.requires)),
)

pub step_needs-returns-in-If : goal.step_needs-returns-in-If
step_needs-returns-in-If t c =
    let left = rw c.as_slice.ensures at c.in_ok-left-in-If.ensures in
    let right = rw c.as_slice-in-If.ensures at c.in_ok-right-in-If.ensures in
    let a = c.in_ok-left-in-If.left in
    let b = c.in_ok-right-in-If.right in
    IfOk-weaker c.both.result _ _
    (λ n e d k of ok. e ∙ rw c.in-If.is
    (if_need d k c.in-If.test c.in-If.yes c.in-If.no (room_seen a) (room_seen b) (rw c.in-If.is at ok) (left d k of) (right d k of)))
    c.both.ensures

pub step_needs-arms_need-requires : goal.step_needs-arms_need-requires
step_needs-arms_need-requires t c = (
  first_of (search (rules, the_lemmas), grind (arith, the_lemmas)),
  subst (ArmsIn c.args.state.now) (sym c.as_slice-in-Case.ensures)
      (inside.all_arms c.args.state.now c.in-Case.on c.in-Case.arms c.in-Case.rest (rw c.in-Case.is at c.requires)),
)

pub step_needs-steps_need-requires-in-Case : goal.step_needs-steps_need-requires-in-Case
step_needs-steps_need-requires-in-Case t c = (
  first_of (search (rules, the_lemmas), grind (arith, the_lemmas)),
  subst (StepsIn c.args.state.now) (sym c.as_slice-in-Case-2.ensures)
      (inside.other_steps c.args.state.now c.in-Case.on c.in-Case.arms c.in-Case.rest (rw c.in-Case.is at c.requires)),
)

pub step_needs-returns-in-Case : goal.step_needs-returns-in-Case
step_needs-returns-in-Case t c =
    let left = rw c.as_slice-in-Case.ensures at c.in_ok-left-in-Case.ensures in
    let right = rw c.as_slice-in-Case-2.ensures at c.in_ok-right-in-Case.ensures in
    let a = c.in_ok-left-in-Case.left in
    let b = c.in_ok-right-in-Case.right in
    IfOk-weaker c.both-in-Case.result _ _
    (λ n e d k of ok. e ∙ rw c.in-Case.is
    (case_need d k c.in-Case.on c.in-Case.arms c.in-Case.rest (room_seen a) (room_seen b) (rw c.in-Case.is at ok) (left d k (width_of d c.in-Case.on) of)
    (right d k of)))
    c.both-in-Case.ensures

pub step_needs-returns-in-Show : goal.step_needs-returns-in-Show
step_needs-returns-in-Show t c d k of ok =
    let bytes = rw c.as_slice-in-Show.ensures at c.in_ok-bytes-in-Show.ensures in
    let formed = rw c.in-Show.is at ok in
    ap (λ n. record { updates = 0; bytes = n; counters = 0 }) (bytes d of (show_formed d k c.in-Show.pieces formed))
    ∙ rw c.in-Show.is (show_need d c.in-Show.pieces)

pub steps_need-step_needs-requires : goal.steps_need-step_needs-requires
steps_need-step_needs-requires t c =
    let x = c.step-item.result in
    let rest = drop (c.loop-step.step-index + 1) c.args.steps.now in
    let e = drop_here c.args.steps.now c.loop-step.step-index x c.loop-step-test.true c.step-item.is in
    let inv = rw e at c.loop-step.invariant in (
      first_of (search (rules, the_lemmas), grind (arith, the_lemmas)),
      inside.first_step c.args.state.now x rest inv.can,
    )

pub steps_need-loop-step-preserved : goal.steps_need-loop-step-preserved
steps_need-loop-step-preserved t c =
    let x = c.step-item.result in
    let rest = drop (c.loop-step.step-index + 1) c.args.steps.now in
    let e = drop_here c.args.steps.now c.loop-step.step-index x c.loop-step-test.true c.step-item.is in
    let inv = rw e at c.loop-step.invariant in
    record {
      needs = λ d k of ok. one_need d mentions_in x rest (room_seen c.loop-step.all) (room_seen c.in_ok-more.more) _ (room_seen c.in_ok-all.all)
          (inv.needs d k of ok)
          (c.in_ok-more.ensures d k of (left_true (is_step d k x) (list_all (is_step d k) rest) (inv.formed d k ok))) c.in_ok-all.ensures;
      formed = λ d k ok. right_true (is_step d k x) (list_all (is_step d k) rest) (inv.formed d k ok);
      can = inside.rest_steps c.args.state.now x rest inv.can;
    }

pub steps_need-returns : goal.steps_need-returns
steps_need-returns t c d k of ok =
    let e = inside.past_end c.args.steps.now c.loop-step.step-index c.loop-step-test.false in
    let inv = rw e at c.loop-step.invariant in
    sym (sum_none (room_seen c.loop-step.all)) ∙ inv.needs d k of ok

pub arms_need-steps_need-requires : goal.arms_need-steps_need-requires
arms_need-steps_need-requires t c =
    let arm = c.arm-item.result in
    let rest = drop (c.loop-arm.arm-index + 1) c.args.arms.now in
    let e = drop_here c.args.arms.now c.loop-arm.arm-index arm c.loop-arm-test.true c.arm-item.is in
    let inv = rw e at c.loop-arm.invariant in (
      first_of (search (rules, the_lemmas), grind (arith, the_lemmas)),
      subst (StepsIn c.args.state.now) (sym c.as_slice.ensures) (inside.first_arm c.args.state.now arm rest inv.can),
    )

pub arms_need-loop-arm-preserved : goal.arms_need-loop-arm-preserved
arms_need-loop-arm-preserved t c =
    let arm = c.arm-item.result in
    let rest = drop (c.loop-arm.arm-index + 1) c.args.arms.now in
    let e = drop_here c.args.arms.now c.loop-arm.arm-index arm c.loop-arm-test.true c.arm-item.is in
    let inv = rw e at c.loop-arm.invariant in
    let more = rw c.as_slice.ensures at c.in_ok-more.ensures in
    record {
      needs = λ d k w of ok. one_need d arm_mentions_in arm rest (room_seen c.loop-arm.all) (room_seen c.in_ok-more.more) _ (room_seen c.in_ok-all.all)
          (inv.needs d k w of ok)
          (more d k of (right_true (list_all (is_item d w) arm.items) (list_all (is_step d k) arm.body)
          (left_true (arm_at d k w arm) (list_all (arm_at d k w) rest) (inv.formed d k w ok))) ∙ arm_need d arm)
          c.in_ok-all.ensures;
      formed = λ d k w ok. right_true (arm_at d k w arm) (list_all (arm_at d k w) rest) (inv.formed d k w ok);
      can = inside.rest_arms c.args.state.now arm rest inv.can;
    }
