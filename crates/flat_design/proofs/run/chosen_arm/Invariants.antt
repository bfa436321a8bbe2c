use Rattle.std.proofs.Common.{◌≡◌, ℕ, map, drop, List}
use Rattle.circuit_run.specs.Outcomes.{Act}
use Rattle.design_meaning.specs.Steps.{arm_acts, chosen}
use Rattle.flat_design.specs.InDesign.{AreArmsIn}
use Rattle.flat_design.proofs.run.chosen_arm.Given as goal

abbrev pub invariant-loop-at : goal.invariant-loop-at
invariant-loop-at l =
    let left = drop l.at l.arms in
    record {
      same : (rest : List (Act ℕ)) → chosen l.state l.number (map arm_acts l.arms) rest ≡ chosen l.state l.number (map arm_acts left) rest;
      arms : AreArmsIn l.state left;
    }
