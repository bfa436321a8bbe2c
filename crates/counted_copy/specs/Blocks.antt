-- Steps without counts, and their copies with counts, one kind of step at a time.
use Rattle.std.specs.Prelude.{◌≡◌, ℕ, ◌+◌, Bool, true, false, ◌&&◌, List, [], ◌∷◌, ◌++◌}
use Rattle.std.specs.List.{list_all}
use Rattle.design_tree.specs.declared.step.StepArm.{StepArm, fold-StepArm}
use Rattle.design_tree.specs.declared.step.Step.{Step, Step-F, fold-Step}
use Rattle.design_tree.specs.declared.step.Step.TheOpen as o
use Rattle.counted_circuit.specs.Inserted.{counts, AreCounted, ArmsAreCounted}
use Rattle.counted_circuit.specs.Tells.{tells}

-- one step is no count and has none in it, from what is so of the steps in it
abbrev pub step_is_uncounted : Step-F Bool Bool → Bool
step_is_uncounted (o.If test left right) = list_all (λ b. b) left && list_all (λ b. b) right
step_is_uncounted (o.Case on arms rest) = list_all (λ b. b) arms && list_all (λ b. b) rest
step_is_uncounted (o.Count counter) = false
step_is_uncounted _ = true

-- the same of an arm of a `case`
abbrev pub arm_is_uncounted : o.StepArm-F Bool Bool → Bool
arm_is_uncounted arm = list_all (λ b. b) arm.body

-- a step is no count and has none in it
abbrev pub is_uncounted : Step → Bool
is_uncounted = fold-Step Bool Bool step_is_uncounted arm_is_uncounted

-- an arm of a `case` has no count in it
abbrev pub is_uncounted_arm : StepArm → Bool
is_uncounted_arm = fold-StepArm Bool Bool step_is_uncounted arm_is_uncounted

-- a step with counts in place of a step, whose arms have the numbers from n up to m; where there are no arms it is the step
pub record IsCountedStep (carried : ℕ → List ℕ) (n : ℕ) (a b : Step) (m : ℕ) : Type 0 where
  pub counted : AreCounted carried n (a ∷ []) (b ∷ []) m
  pub plain : (tells a).arms ≡ 0 → b ≡ a

-- the same of an arm of a `case`
abbrev pub IsCountedArm : (ℕ → List ℕ) → ℕ → StepArm → StepArm → ℕ → Type 0
IsCountedArm carried n a b m = ArmsAreCounted carried n (a ∷ []) (b ∷ []) m

-- the block of the arm with the number n: counts of what the arm carries, and then its steps with counts
pub record IsCountedBlock (carried : ℕ → List ℕ) (n : ℕ) (ss ts : List Step) (m : ℕ) : Type 0 where
  pub steps : List Step
  pub counted : AreCounted carried (n + 1) ss steps m
  pub block : ts ≡ counts (carried n) ++ steps
