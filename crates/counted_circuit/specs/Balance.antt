-- The two arms of an `if` are entered together as often as the arm around it.
use Rattle.std.specs.Prelude.{◌≡◌, ℕ, ◌+◌, List, [], ◌∷◌, ◌++◌, map}
use Rattle.std.specs.List.{AllByRecursion}
use Rattle.design_tree.specs.declared.step.Step.{Step}
use Rattle.design_tree.specs.declared.design.Process.{Process}
use Rattle.cov_types.specs.declared.kind.ProcessKind.{ProcessKind}
use Rattle.cov_types.specs.declared.kind.ProcessKind.TheVariants as kind
use Rattle.design_tree.specs.declared.design.Design.{Design}
use Rattle.circuit_run.specs.Runs.{Run, IsRun}
use Rattle.counted_circuit.specs.Tells.{Fork, tells, forks_of_arm}
use Rattle.counted_circuit.specs.Circuits.{arms_in, told_circuit}
use Rattle.counted_circuit.specs.Counts.{times}
use Rattle.counted_circuit.specs.CountedDesign.{IsCountedDesign}

-- each `if` of a process whose first arm has the number n; that of a cover is none
abbrev pub process_forks : ProcessKind → List Step → ℕ → List Fork
process_forks kind.Assign steps n = []
process_forks kind.Cover steps n = []
process_forks _ steps n = forks_of_arm (map tells steps) n

-- each `if` of some processes, the first arm of which has the number n
abbrev pub forks_from : ℕ → List Process → List Fork
forks_from n [] = []
forks_from n (p ∷ ps) = process_forks p.kind p.body n ++ forks_from (n + arms_in p.kind p.body) ps

-- each `if` of a design
abbrev pub forks_in : Design → List Fork
forks_in d = forks_from 0 d.processes

-- the arm around an `if` was entered as often as its two arms together
abbrev pub IsBalanced : Run ℕ → Fork → Type 0
IsBalanced r f = times f.around r ≡ times f.yes_arm r + times f.no_arm r

-- a design without counts: with nothing counted it is itself
abbrev pub HasNoCounts : Design → Type 0
HasNoCounts d = (arms : ℕ) × IsCountedDesign (λ k. []) d d arms

-- in every run this holds of each `if`; so the count of a no arm is the difference of the other two
abbrev pub ForksBalance : Type 0
ForksBalance = (d : Design) (rows : List (List ℕ)) (r : Run ℕ) → HasNoCounts d → IsRun (told_circuit d) rows r
    → AllByRecursion (IsBalanced r) (forks_in d)
