-- Processes without counts, and covers with theirs.
use Rattle.std.specs.Prelude.{◌≡◌, ℕ, List, [], ◌∷◌}
use Rattle.design_tree.specs.declared.typed.Typed.{Typed}
use Rattle.design_tree.specs.declared.step.Step.{Step}
use Rattle.design_tree.specs.declared.step.Step.TheVariants as s
use Rattle.design_tree.specs.declared.design.Process.{Process}
use Rattle.counted_circuit.specs.Inserted.{IsCountedProcess}

-- with nothing counted it is itself
pub record IsUncounted (p : Process) : Type 0 where
  pub first : ℕ
  pub after : ℕ
  pub itself : IsCountedProcess (λ k. []) first p p after

-- the test of a cover, with nothing in its arms
pub record IsTest (a : Step) : Type 0 where
  pub test : Typed
  pub is : a ≡ s.If test [] []

-- the same test with these counts in its yes arm
pub record IsTestWith (counted : List Step) (a b : Step) : Type 0 where
  pub test : Typed
  pub before : a ≡ s.If test [] []
  pub after : b ≡ s.If test counted []

-- the body of a cover, and the same with these counts
pub record AreTestsWith (counted : List Step) (body copies : List Step) : Type 0 where
  pub test : Typed
  pub before : body ≡ s.If test [] [] ∷ []
  pub after : copies ≡ s.If test counted [] ∷ []
