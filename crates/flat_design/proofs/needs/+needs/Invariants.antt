use Rattle.std.proofs.Common.{◌≡◌, ℕ, IsTrue, drop}
use Rattle.std.specs.Prelude.{flat_map}
use Rattle.std.specs.List.{list_all}
use Rattle.design_tree.specs.declared.design.Design.{Design}
use Rattle.design_meaning.specs.States.{IsStateOf}
use Rattle.design_meaning.specs.WellFormed.{is_step}
use Rattle.flat_design.specs.Effects.{room_for, sum_of}
use Rattle.flat_design.specs.InDesign.{mentions_in}
use Rattle.flat_design.specs.Needed.{room_seen, StepsIn, ArmsIn, arm_mentions_in, arm_at}
use Rattle.flat_design.proofs.needs.+needs.Given as goal

abbrev pub invariant-steps_need-loop-step : goal.invariant-steps_need-loop-step
invariant-steps_need-loop-step l =
    let rest = drop l.step-index l.steps in
    record {
      needs : (d : Design) (k : ℕ) → IsStateOf d l.state → IsTrue (list_all (is_step d k) l.steps)
          → sum_of (room_seen l.all) (room_for d (flat_map mentions_in rest)) ≡ room_for d (flat_map mentions_in l.steps);
      formed : (d : Design) (k : ℕ) → IsTrue (list_all (is_step d k) l.steps) → IsTrue (list_all (is_step d k) rest);
      can : StepsIn l.state rest;
    }

abbrev pub invariant-arms_need-loop-arm : goal.invariant-arms_need-loop-arm
invariant-arms_need-loop-arm l =
    let rest = drop l.arm-index l.arms in
    record {
      needs : (d : Design) (k w : ℕ) → IsStateOf d l.state → IsTrue (list_all (arm_at d k w) l.arms)
          → sum_of (room_seen l.all) (room_for d (flat_map arm_mentions_in rest)) ≡ room_for d (flat_map arm_mentions_in l.arms);
      formed : (d : Design) (k w : ℕ) → IsTrue (list_all (arm_at d k w) l.arms) → IsTrue (list_all (arm_at d k w) rest);
      can : ArmsIn l.state rest;
    }
