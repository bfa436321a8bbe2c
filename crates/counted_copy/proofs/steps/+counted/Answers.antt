use Rattle.std.proofs.Common.{rules, arith, subst, sym, length, take, ◌∙◌, ◌+◌}
use Rattle.design_tree.specs.declared.step.Step.{the_lemmas}
use Rattle.counted_circuit.specs.Inserted.{ArmsAreCounted}
use Rattle.counted_copy.specs.Carried.{carried_by}
use Rattle.counted_copy.specs.Blocks.{IsCountedBlock}
use Rattle.counted_copy.proofs.CountedSteps as copies
use Rattle.counted_copy.proofs.Room as room
use Rattle.counted_copy.proofs.steps.+counted.Goals as goal

pub counted_arm-counted_block-requires : goal.counted_arm-counted_block-requires
counted_arm-counted_block-requires t c = (
  first_of (search (rules, the_lemmas), grind (arith, the_lemmas)),
  room.of_body c.args.arm.now c.args.number (length c.args.carriers.now) c.as_slice-2.result.now c.requires.uncounted c.requires.room c.as_slice-2.ensures,
)

pub counted_arm-returns : goal.counted_arm-returns
counted_arm-returns t c =
    copies.arm_counted (carried_by c.args.carriers.now) c.args.number c.in_ok-block.block.next c.args.arm.now c.in_ok-items.items c.in_ok-block.block.steps
    (c.in_ok-items.ensures ∙ c.as_slice.ensures)
    (subst (λ xs. IsCountedBlock (carried_by c.args.carriers.now) c.args.number xs c.in_ok-block.block.steps c.in_ok-block.block.next)
    c.as_slice-2.ensures c.in_ok-block.ensures)

pub counted_arms-loop-arm-init : goal.counted_arms-loop-arm-init
counted_arms-loop-arm-init t c = copies.arms_first (carried_by c.args.carriers.now) c.args.first c.new-copies.result c.new-copies.ensures

pub counted_arms-counted_arm-requires : goal.counted_arms-counted_arm-requires
counted_arms-counted_arm-requires t c = (
  first_of (search (rules, the_lemmas), grind (arith, the_lemmas)),
  room.of_arm (carried_by c.args.carriers.now) c.args.first c.loop-arm.next (length c.args.carriers.now) c.loop-arm.arm-index c.args.arms.now
      c.loop-arm.copies c.arm-item.result c.loop-arm-test.true c.arm-item.is (c.requires.uncounted, c.requires.room) c.loop-arm.invariant,
)

pub counted_arms-loop-arm-preserved : goal.counted_arms-loop-arm-preserved
counted_arms-loop-arm-preserved t c =
    subst (λ ts. ArmsAreCounted (carried_by c.args.carriers.now) c.args.first (take (c.loop-arm.arm-index + 1) c.args.arms.now) ts c.in_ok-counted.counted.next)
    (sym c.in_ok-push.ensures.ok)
    (copies.arms_next (carried_by c.args.carriers.now) c.args.first c.loop-arm.next c.in_ok-counted.counted.next c.loop-arm.arm-index c.args.arms.now
    c.loop-arm.copies c.arm-item.result c.in_ok-counted.counted.arm c.loop-arm-test.true c.arm-item.is c.loop-arm.invariant c.in_ok-counted.ensures)

pub counted_block-loop-step-init : goal.counted_block-loop-step-init
counted_block-loop-step-init t c =
    copies.block_first (carried_by c.args.carriers.now) c.args.arm c.args.steps.now c.in_ok-copies.copies c.in_ok-copies.ensures.counted

pub counted_block-counted_step-requires : goal.counted_block-counted_step-requires
counted_block-counted_step-requires t c = (
  first_of (search (rules, the_lemmas), grind (arith, the_lemmas)),
  room.of_step (carried_by c.args.carriers.now) c.args.arm c.loop-step.next (length c.args.carriers.now) c.loop-step.step-index c.args.steps.now
      c.loop-step.copies c.step-item.result c.loop-step-test.true c.step-item.is (c.requires.uncounted, c.requires.room) c.loop-step.invariant,
)

pub counted_block-loop-step-preserved : goal.counted_block-loop-step-preserved
counted_block-loop-step-preserved t c =
    subst (λ ts. IsCountedBlock (carried_by c.args.carriers.now) c.args.arm (take (c.loop-step.step-index + 1) c.args.steps.now) ts
    c.in_ok-counted.counted.next) (sym c.in_ok-push.ensures.ok)
    (copies.block_next (carried_by c.args.carriers.now) c.args.arm c.loop-step.next c.in_ok-counted.counted.next c.loop-step.step-index c.args.steps.now
    c.loop-step.copies c.step-item.result c.in_ok-counted.counted.step c.loop-step-test.true c.step-item.is c.loop-step.invariant c.in_ok-counted.ensures)

pub counted_step-returns-in_ok-value-in-Set : goal.counted_step-returns-in_ok-value-in-Set
counted_step-returns-in_ok-value-in-Set t c =
    copies.set_counted (carried_by c.args.carriers.now) c.args.arm c.args.step.now c.in-Set.targets c.as_slice.result.now c.in_ok-targets-in-Set.targets
    c.in-Set.value c.in_ok-value-in-Set.value c.in-Set.is c.in_ok-targets-in-Set.ensures c.as_slice.ensures c.in_ok-value-in-Set.ensures

pub counted_step-returns-in_ok-value-in-Later : goal.counted_step-returns-in_ok-value-in-Later
counted_step-returns-in_ok-value-in-Later t c =
    copies.later_counted (carried_by c.args.carriers.now) c.args.arm c.args.step.now c.in-Later.targets c.as_slice-in-Later.result.now
    c.in_ok-targets-in-Later.targets c.in-Later.value c.in_ok-value-in-Later.value c.in-Later.is c.in_ok-targets-in-Later.ensures
    c.as_slice-in-Later.ensures c.in_ok-value-in-Later.ensures

pub counted_step-returns-in_ok-pieces-in-Show : goal.counted_step-returns-in_ok-pieces-in-Show
counted_step-returns-in_ok-pieces-in-Show t c =
    copies.show_counted (carried_by c.args.carriers.now) c.args.arm c.args.step.now c.in-Show.pieces c.as_slice-in-Show.result.now
    c.in_ok-pieces-in-Show.pieces c.in-Show.is c.in_ok-pieces-in-Show.ensures c.as_slice-in-Show.ensures

pub counted_step-returns-in-Finish : goal.counted_step-returns-in-Finish
counted_step-returns-in-Finish t c = copies.finish_counted (carried_by c.args.carriers.now) c.args.arm c.args.step.now c.in-Finish.is

pub counted_step-returns-in-Stop : goal.counted_step-returns-in-Stop
counted_step-returns-in-Stop t c = copies.stop_counted (carried_by c.args.carriers.now) c.args.arm c.args.step.now c.in-Stop.is

pub counted_step-counted_block-requires : goal.counted_step-counted_block-requires
counted_step-counted_block-requires t c = (
  first_of (search (rules, the_lemmas), grind (arith, the_lemmas)),
  room.of_yes c.args.step.now c.args.arm (length c.args.carriers.now) c.requires.uncounted c.requires.room c.in-If.test c.in-If.yes c.in-If.no
      c.as_slice-in-If.result.now c.in-If.is c.as_slice-in-If.ensures,
)

pub counted_step-counted_block-requires-in-If : goal.counted_step-counted_block-requires-in-If
counted_step-counted_block-requires-in-If t c = (
  first_of (search (rules, the_lemmas), grind (arith, the_lemmas)),
  room.of_no c.args.step.now c.args.arm (length c.args.carriers.now) c.requires.uncounted c.requires.room (carried_by c.args.carriers.now)
      c.in-If.test c.in-If.yes c.in-If.no c.as_slice-in-If.result.now c.as_slice-in-If-2.result.now c.in_ok-yes-in-If.yes.steps c.in_ok-yes-in-If.yes.next
      c.in-If.is c.as_slice-in-If.ensures c.as_slice-in-If-2.ensures c.in_ok-yes-in-If.ensures,
)

pub counted_step-returns-in_ok-no-in-If : goal.counted_step-returns-in_ok-no-in-If
counted_step-returns-in_ok-no-in-If t c =
    copies.if_counted (carried_by c.args.carriers.now) c.args.arm c.in_ok-yes-in-If.yes.next c.in_ok-no-in-If.no.next c.args.step.now c.in-If.test
    c.in_ok-test-in-If.test c.in-If.yes c.in_ok-yes-in-If.yes.steps c.in-If.no c.in_ok-no-in-If.no.steps c.in-If.is c.in_ok-test-in-If.ensures
    (subst (λ xs. IsCountedBlock (carried_by c.args.carriers.now) c.args.arm xs c.in_ok-yes-in-If.yes.steps c.in_ok-yes-in-If.yes.next)
    c.as_slice-in-If.ensures c.in_ok-yes-in-If.ensures)
    (subst (λ xs. IsCountedBlock (carried_by c.args.carriers.now) c.in_ok-yes-in-If.yes.next xs c.in_ok-no-in-If.no.steps c.in_ok-no-in-If.no.next)
    c.as_slice-in-If-2.ensures c.in_ok-no-in-If.ensures)

pub counted_step-counted_arms-requires : goal.counted_step-counted_arms-requires
counted_step-counted_arms-requires t c = (
  first_of (search (rules, the_lemmas), grind (arith, the_lemmas)),
  room.of_arms c.args.step.now c.args.arm (length c.args.carriers.now) c.requires.uncounted c.requires.room c.in-Case.on c.in-Case.arms
      c.as_slice-in-Case.result.now c.in-Case.rest c.in-Case.is c.as_slice-in-Case.ensures,
)

pub counted_step-counted_block-requires-in-Case : goal.counted_step-counted_block-requires-in-Case
counted_step-counted_block-requires-in-Case t c = (
  first_of (search (rules, the_lemmas), grind (arith, the_lemmas)),
  room.of_rest c.args.step.now c.args.arm (length c.args.carriers.now) c.requires.uncounted c.requires.room (carried_by c.args.carriers.now)
      c.in-Case.on c.in-Case.arms c.as_slice-in-Case.result.now c.in_ok-arms-in-Case.arms.arms c.in-Case.rest c.as_slice-in-Case-2.result.now
      c.in_ok-arms-in-Case.arms.next c.in-Case.is c.as_slice-in-Case.ensures c.as_slice-in-Case-2.ensures c.in_ok-arms-in-Case.ensures,
)

pub counted_step-returns-in_ok-rest-in-Case : goal.counted_step-returns-in_ok-rest-in-Case
counted_step-returns-in_ok-rest-in-Case t c =
    copies.case_counted (carried_by c.args.carriers.now) c.args.arm c.in_ok-arms-in-Case.arms.next c.in_ok-rest-in-Case.rest.next c.args.step.now c.in-Case.on
    c.in_ok-on-in-Case.on c.in-Case.arms c.in_ok-arms-in-Case.arms.arms c.in-Case.rest c.in_ok-rest-in-Case.rest.steps c.in-Case.is c.in_ok-on-in-Case.ensures
    (subst (λ xs. ArmsAreCounted (carried_by c.args.carriers.now) c.args.arm xs c.in_ok-arms-in-Case.arms.arms c.in_ok-arms-in-Case.arms.next)
    c.as_slice-in-Case.ensures c.in_ok-arms-in-Case.ensures)
    (subst (λ xs. IsCountedBlock (carried_by c.args.carriers.now) c.in_ok-arms-in-Case.arms.next xs c.in_ok-rest-in-Case.rest.steps
    c.in_ok-rest-in-Case.rest.next) c.as_slice-in-Case-2.ensures c.in_ok-rest-in-Case.ensures)
