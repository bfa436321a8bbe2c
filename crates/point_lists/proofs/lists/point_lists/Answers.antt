use Rattle.point_lists.proofs.Putting as putting
use Rattle.point_lists.proofs.lists.point_lists.Goals as goal

pub loop-arm-init : goal.loop-arm-init
loop-arm-init c =
    putting.none_yet c.args.rows.now c.args.numbers.now c.new-plus.result c.new-minus.result c.new-plus.ensures c.new-minus.ensures

pub loop-arm-preserved : goal.loop-arm-preserved
loop-arm-preserved c =
    putting.next_arm c.args.rows.now c.args.numbers.now c.args.arms.now c.loop-arm.arm-index c.loop-arm.plus c.put_lists.new.plus c.loop-arm.minus
    c.put_lists.new.minus c.loop-arm-test.true c.loop-arm.invariant c.in_ok-put_lists.ensures
