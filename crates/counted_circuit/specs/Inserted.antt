-- Counts at the heads of the arms of steps (this project's own).
use Rattle.std.specs.Prelude.{ℕ, ◌+◌, List, [], ◌∷◌, ◌++◌, map}
use Rattle.design_tree.specs.declared.typed.Typed.{Typed}
use Rattle.design_tree.specs.declared.step.Target.{Target}
use Rattle.design_tree.specs.declared.step.Piece.{Piece}
use Rattle.design_tree.specs.declared.step.StepItem.{StepItem}
use Rattle.design_tree.specs.declared.step.Step.{Step}
use Rattle.design_tree.specs.declared.step.Step.TheVariants as s
use Rattle.design_tree.specs.declared.step.StepArm.{StepArm}
use Rattle.design_tree.specs.declared.design.Process.{Process}
use Rattle.cov_types.specs.declared.kind.ProcessKind.TheVariants as kind
use Rattle.design_meaning.specs.Steps.{step_arm}

-- one step for each counter that it raises
abbrev pub counts : List ℕ → List Step
counts counters = map (λ c. s.Count c) counters

-- a step without arms, other than a count
pub data IsPlain : Step → Type 0 where
  set : (targets : List Target) (value : Typed) → IsPlain (s.Set targets value)
  later : (targets : List Target) (value : Typed) → IsPlain (s.Later targets value)
  show : (pieces : List Piece) → IsPlain (s.Show pieces)
  finish : IsPlain s.Finish
  stop : IsPlain s.Stop

-- Steps, and the same steps with counts: the block of the arm with the number k begins with the counts of the counters
-- that k carries. Arms have their numbers in preorder, from the first number up to the last, which is the number of the
-- arm after these steps: the yes arm of an `if` and what is in it, then the no arm; the arms of a `case`, then the no-match arm.
mutual
  pub data AreCounted (carried : ℕ → List ℕ) : ℕ → List Step → List Step → ℕ → Type 0 where
    no_steps : {n : ℕ} → AreCounted carried n [] [] n
    plain : {n m : ℕ} {a : Step} {ss ts : List Step} → IsPlain a → AreCounted carried n ss ts m → AreCounted carried n (a ∷ ss) (a ∷ ts) m
    an_if : {n m k j : ℕ} {left left' right right' ss ts : List Step} (test : Typed)
        → AreCounted carried (n + 1) left left' m → AreCounted carried (m + 1) right right' k → AreCounted carried k ss ts j
        → AreCounted carried n (s.If test left right ∷ ss)
        (s.If test (counts (carried n) ++ left') (counts (carried m) ++ right') ∷ ts) j
    a_case : {n m k j : ℕ} {arms arms' : List StepArm} {rest rest' ss ts : List Step} (on : Typed)
        → ArmsAreCounted carried n arms arms' m → AreCounted carried (m + 1) rest rest' k → AreCounted carried k ss ts j
        → AreCounted carried n (s.Case on arms rest ∷ ss) (s.Case on arms' (counts (carried m) ++ rest') ∷ ts) j

  pub data ArmsAreCounted (carried : ℕ → List ℕ) : ℕ → List StepArm → List StepArm → ℕ → Type 0 where
    no_arms : {n : ℕ} → ArmsAreCounted carried n [] [] n
    an_arm : {n m k : ℕ} {body body' : List Step} {arms arms' : List StepArm} (items : List StepItem)
        → AreCounted carried (n + 1) body body' m → ArmsAreCounted carried m arms arms' k
        → ArmsAreCounted carried n (step_arm items body ∷ arms) (step_arm items (counts (carried n) ++ body') ∷ arms') k

-- A process: its body is its first arm. An assignment's body has a number and no counts; a cover's one arm is the yes
-- arm of its `if`.
pub data IsCountedProcess (carried : ℕ → List ℕ) : ℕ → Process → Process → ℕ → Type 0 where
  assignment : {n : ℕ} {a : Step} → IsPlain a
      → IsCountedProcess carried n (record { kind = kind.Assign; body = a ∷ [] }) (record { kind = kind.Assign; body = a ∷ [] }) (n + 1)
  cover : {n : ℕ} (test : Typed)
      → IsCountedProcess carried n (record { kind = kind.Cover; body = s.If test [] [] ∷ [] })
      (record { kind = kind.Cover; body = s.If test (counts (carried n)) [] ∷ [] }) (n + 1)
  comb : {n m : ℕ} {body body' : List Step} → AreCounted carried (n + 1) body body' m
      → IsCountedProcess carried n (record { kind = kind.Comb; body = body }) (record { kind = kind.Comb; body = counts (carried n) ++ body' }) m
  clocked : {n m : ℕ} {body body' : List Step} → AreCounted carried (n + 1) body body' m
      → IsCountedProcess carried n (record { kind = kind.Clocked; body = body }) (record { kind = kind.Clocked; body = counts (carried n) ++ body' }) m
  initial : {n m : ℕ} {body body' : List Step} → AreCounted carried (n + 1) body body' m
      → IsCountedProcess carried n (record { kind = kind.Initial; body = body }) (record { kind = kind.Initial; body = counts (carried n) ++ body' }) m

-- the processes of a design, with numbers of arms from the first up to the last
pub data AreCountedProcesses (carried : ℕ → List ℕ) : ℕ → List Process → List Process → ℕ → Type 0 where
  no_processes : {n : ℕ} → AreCountedProcesses carried n [] [] n
  more : {n m k : ℕ} {p q : Process} {ps qs : List Process}
      → IsCountedProcess carried n p q m → AreCountedProcesses carried m ps qs k → AreCountedProcesses carried n (p ∷ ps) (q ∷ qs) k
