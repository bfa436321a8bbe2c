use Rattle.scope_meaning.specs.Declared.{count}
use Rattle.elab_counts.proofs.Counts.{in_Choose, none-last, last-is, in_arm, step}
use Rattle.elab_counts.proofs.items.+item_count.Goals as goal

pub count-returns-in-Some : goal.count-returns-in-Some
count-returns-in-Some t c =
    in_Choose c.in-Choose.arms c.in-Choose.last c.args.item.now c.as_slice-in-Choose.result.now c.in_ok-arms-in-Choose.arms c.in_ok-last-in-Some.last
    c.sum.result c.in-Choose.is c.as_slice-in-Choose.ensures c.in_ok-arms-in-Choose.ensures
    (last-is c.in-Choose.last c.in-Some.body c.in_ok-last-in-Some.last c.in-Some.is c.in_ok-last-in-Some.ensures) c.sum.ensures

pub count-returns-in-None : goal.count-returns-in-None
count-returns-in-None t c =
    none-last c.in-Choose.arms c.in-Choose.last c.args.item.now c.as_slice-in-Choose.result.now c.in_ok-arms-in-Choose.arms c.in-Choose.is
    c.as_slice-in-Choose.ensures c.in_ok-arms-in-Choose.ensures c.in-None.is

pub count_arms-loop-arm-preserved : goal.count_arms-loop-arm-preserved
count_arms-loop-arm-preserved t c =
    step in_arm c.args.arms.now c.loop-arm.arm-index c.arm-item.result 1 c.loop-arm.all c.in_ok-count_body.field-0 c.in_ok-all.all c.loop-arm-test.true
    c.arm-item.is c.loop-arm.invariant c.in_ok-count_body.ensures c.in_ok-all.ensures

pub count_items-loop-item-preserved : goal.count_items-loop-item-preserved
count_items-loop-item-preserved t c =
    step count c.args.items.now c.loop-item.item-index c.item-item.result c.args.before c.loop-item.all c.in_ok-count.field-0 c.in_ok-all.all
    c.loop-item-test.true c.item-item.is c.loop-item.invariant c.in_ok-count.ensures c.in_ok-all.ensures
