use Rattle.std.proofs.Common.{refl, rules, arith}
use Rattle.design_tree.specs.declared.step.Step.{the_lemmas}
use Rattle.arm_rows.specs.declared.row.ArmRow.TheVariants as row
use Rattle.arm_rows.proofs.Adding as adding
use Rattle.arm_rows.proofs.Listing as listing
use Rattle.arm_rows.proofs.StepRows as kinds
use Rattle.arm_rows.proofs.steps.+arms.Goals as goal

pub put_arm-put_steps-requires : goal.put_arm-put_steps-requires
put_arm-put_steps-requires t c = (
  first_of (search (rules, the_lemmas), grind (arith, the_lemmas)),
  kinds.last_holds c.args.rows.now c.push.new.self row.Listed c.len-number.result c.in_ok-push.ensures.ok c.len-number.ensures refl,
)

pub put_arm-returns : goal.put_arm-returns
put_arm-returns t c =
    kinds.adds_listed c.args.arm.now c.len-number.result c.args.rows.now c.push.new.self c.put_steps.new.rows c.len-number.ensures c.in_ok-push.ensures.ok
    (kinds.of_steps c.as_slice.result.now c.args.arm.now.body c.len-number.result c.push.new.self c.put_steps.new.rows c.as_slice.ensures
    c.in_ok-put_steps.ensures)

pub put_arms-loop-arm-init : goal.put_arms-loop-arm-init
put_arms-loop-arm-init t c = adding.adds_none c.args.rows.now

pub put_arms-loop-arm-preserved : goal.put_arms-loop-arm-preserved
put_arms-loop-arm-preserved t c =
    listing.arms_next c.loop-arm.arm-index c.args.arms.now c.arm-item.result c.args.rows.now c.loop-arm.rows c.put_arm.new.rows c.loop-arm-test.true
    c.arm-item.is c.loop-arm.invariant c.in_ok-put_arm.ensures

pub put_steps-put_step-requires : goal.put_steps-put_step-requires
put_steps-put_step-requires t c = (
  first_of (search (rules, the_lemmas), grind (arith, the_lemmas)),
  adding.still_holds _ _ _ c.args.rows.now c.loop-step.rows c.args.around c.loop-step.invariant c.requires,
)

pub put_steps-loop-step-init : goal.put_steps-loop-step-init
put_steps-loop-step-init t c = adding.adds_none c.args.rows.now

pub put_steps-loop-step-preserved : goal.put_steps-loop-step-preserved
put_steps-loop-step-preserved t c =
    listing.steps_next c.args.around c.loop-step.step-index c.args.steps.now c.step-item.result c.args.rows.now c.loop-step.rows c.put_step.new.rows
    c.loop-step-test.true c.step-item.is c.loop-step.invariant c.in_ok-put_step.ensures

pub put_rest-returns : goal.put_rest-returns
put_rest-returns t c =
    kinds.adds_rest c.args.steps.now c.len-arm.result c.args.rows.now c.push-2.new.self c.put_steps.new.rows
    (kinds.not_empty c.args.steps.now c.is_empty.result c.is_empty.ensures c.if-is_empty.false)
    c.len-arm.ensures c.in_ok-push-2.ensures.ok c.in_ok-put_steps.ensures

pub put_step-put_steps-requires : goal.put_step-put_steps-requires
put_step-put_steps-requires t c = (
  first_of (search (rules, the_lemmas), grind (arith, the_lemmas)),
  kinds.last_holds c.args.rows.now c.push.new.self row.Yes c.len-yes_arm.result c.in_ok-push-in-If.ensures.ok c.len-yes_arm.ensures refl,
)

pub put_step-put_steps-requires-in-If : goal.put_step-put_steps-requires-in-If
put_step-put_steps-requires-in-If t c = (
  first_of (search (rules, the_lemmas), grind (arith, the_lemmas)),
  kinds.last_holds c.put_steps.new.rows c.push-in-If.new.self (row.No c.args.around c.len-yes_arm.result) c.len-no_arm.result
      c.in_ok-push-in-If-2.ensures.ok c.len-no_arm.ensures refl,
)

pub put_step-returns-in-If : goal.put_step-returns-in-If
put_step-returns-in-If t c =
    kinds.adds_if c.in-If.yes c.in-If.no c.args.around c.len-yes_arm.result c.len-no_arm.result c.args.rows.now c.push.new.self c.put_steps.new.rows
    c.push-in-If.new.self c.put_steps-in-If.new.rows
    (record {
      around_holds = c.requires;
      yes_is = c.len-yes_arm.ensures;
      first = c.in_ok-push-in-If.ensures.ok;
      in_yes = kinds.of_steps c.as_slice.result.now c.in-If.yes c.len-yes_arm.result c.push.new.self c.put_steps.new.rows c.as_slice.ensures
          c.in_ok-put_steps-in-If.ensures;
      no_is = c.len-no_arm.ensures;
      second = c.in_ok-push-in-If-2.ensures.ok;
      in_no = kinds.of_steps c.as_slice-in-If.result.now c.in-If.no c.len-no_arm.result c.push-in-If.new.self c.put_steps-in-If.new.rows
          c.as_slice-in-If.ensures c.in_ok-put_steps-in-If-2.ensures;
    })
    c.args.step.now c.in-If.test c.in-If.is

pub put_step-returns-in-Case : goal.put_step-returns-in-Case
put_step-returns-in-Case t c =
    kinds.adds_case c.args.step.now c.in-Case.on c.in-Case.arms c.in-Case.rest c.args.around c.args.rows.now c.put_arms.new.rows c.put_rest.new.rows
    c.in-Case.is
    (kinds.of_arms c.as_slice-in-Case.result.now c.in-Case.arms c.args.rows.now c.put_arms.new.rows c.as_slice-in-Case.ensures c.in_ok-put_arms-in-Case.ensures)
    (kinds.of_rest c.as_slice-in-Case-2.result.now c.in-Case.rest c.put_arms.new.rows c.put_rest.new.rows c.as_slice-in-Case-2.ensures
    c.in_ok-put_rest-in-Case.ensures)

pub put_step-returns-in-Set : goal.put_step-returns-in-Set
put_step-returns-in-Set t c = kinds.adds_set c.args.step.now c.args.around c.args.rows.now c.in-Set.targets c.in-Set.value c.in-Set.is

pub put_step-returns-in-Later : goal.put_step-returns-in-Later
put_step-returns-in-Later t c = kinds.adds_later c.args.step.now c.args.around c.args.rows.now c.in-Later.targets c.in-Later.value c.in-Later.is

pub put_step-returns-in-Show : goal.put_step-returns-in-Show
put_step-returns-in-Show t c = kinds.adds_show c.args.step.now c.args.around c.args.rows.now c.in-Show.pieces c.in-Show.is

pub put_step-returns-in-Finish : goal.put_step-returns-in-Finish
put_step-returns-in-Finish t c = kinds.adds_finish c.args.step.now c.args.around c.args.rows.now c.in-Finish.is

pub put_step-returns-in-Stop : goal.put_step-returns-in-Stop
put_step-returns-in-Stop t c = kinds.adds_stop c.args.step.now c.args.around c.args.rows.now c.in-Stop.is

pub put_step-returns-in-Count : goal.put_step-returns-in-Count
put_step-returns-in-Count t c = kinds.adds_count c.args.step.now c.args.around c.args.rows.now c.in-Count.counter c.in-Count.is
