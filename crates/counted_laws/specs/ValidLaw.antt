-- When a design with counts is valid.
use Rattle.std.specs.Prelude.{ℕ, ◌<◌, ◌≤◌, List, length, All}
use Rattle.design_tree.specs.declared.design.Design.{Design}
use Rattle.design_tree.specs.declared.instrumented.Instrumented.{Instrumented}
use Rattle.design_meaning.specs.Valid.{AreToggles, ArePoints, IsValid, IsValidDesign, all_steps}
use Rattle.counted_circuit.specs.CountedDesign.{IsCountedDesign}

-- The counters that arms carry are counters of the design, its toggle entries and points are valid, and it is within the limits on steps,
-- counters and points. Counts add to no other limit.
pub record IsSound (carried : ℕ → List ℕ) (x : Instrumented) : Type 0 where
  pub carries : (arm : ℕ) → All (λ c. c < x.counters) (carried arm)
  pub toggles : AreToggles x
  pub points : ArePoints x
  pub steps : all_steps x.design ≤ 4194304
  pub counters : x.counters ≤ 4194304
  pub few_points : length x.points ≤ 1048576

-- A design with such counts of a valid design is valid.
abbrev pub CountedIsValid : Type 0
CountedIsValid = (carried : ℕ → List ℕ) (d : Design) (arms : ℕ) (x : Instrumented) → IsCountedDesign carried d x.design arms
    → IsValidDesign d → IsSound carried x → IsValid x
