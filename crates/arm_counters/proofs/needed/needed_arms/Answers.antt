use Rattle.std.proofs.Common.{◌≡◌, ◌+◌, ◌-◌, subst, arith}
use Rattle.arm_counters.specs.Needed.{AreNeeded}
use Rattle.arm_counters.proofs.Marking as marking
use Rattle.arm_counters.proofs.needed.needed_arms.Goals as goal

pub loop-arm-init : goal.loop-arm-init
loop-arm-init c = record {
  needed = marking.points_needed c.args.rows.now c.args.points.now c.in_ok-marks.marks.items c.in_ok-marks.ensures c.requires.many;
  within = omega arith;
}

pub loop-arm-preserved : goal.loop-arm-preserved
loop-arm-preserved c =
    let e : c.loop-arm.arm ≡ c.loop-arm.arm - 1 + 1 = let t = c.loop-arm-test.true in omega arith in
    record {
      needed = c.mark_around.ensures c.args.points.now
          (subst (λ n. AreNeeded c.args.rows.now c.args.points.now n c.loop-arm.marks.items) e c.loop-arm.invariant.needed);
      within = let w = c.loop-arm.invariant.within in omega arith;
    }

pub returns : goal.returns
returns c =
    let e : c.loop-arm.arm ≡ 0 = let t = c.loop-arm-test.false in omega arith in
    subst (λ n. AreNeeded c.args.rows.now c.args.points.now n c.loop-arm.marks.items) e c.loop-arm.invariant.needed
