use Rattle.std.proofs.Common.{◌<◌, ℕ, List, [], ◌∷◌, ◌++◌, cond, length, get_or, sym, ◌∙◌, ap, arith}
use Rattle.std.specs.Prelude.{None}
use Rattle.counted_circuit.specs.Counts.{is_number}
use Rattle.point_lists.proofs.ArmLists.{arms_more}
use Rattle.point_lists.proofs.arms.point_arms.Goals as goal

pub loop-arm-preserved : goal.loop-arm-preserved
loop-arm-preserved c =
    let lt : c.loop-arm.arm < length c.args.points.now = omega arith in
    record {
      many = c.put_arm.ensures.same ∙ c.loop-arm.invariant.many;
      arms = λ k. c.in_ok-put_arm.ensures.arms k
          ∙ (ap (λ (xs : List ℕ). xs ++ cond (is_number k (get_or c.args.points.now c.loop-arm.arm None)) (c.loop-arm.arm ∷ []) [])
          (c.loop-arm.invariant.arms k) ∙ sym (arms_more c.args.points.now c.loop-arm.arm k lt));
    }
