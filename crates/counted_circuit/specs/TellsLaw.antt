-- Steps with counts raise, for each arm that is entered, the counters that it carries, and do all else as the steps
-- without counts.
use Rattle.std.specs.Prelude.{◌≡◌, ℕ, List}
use Rattle.design_tree.specs.declared.step.Step.{Step}
use Rattle.circuit_run.specs.States.{State}
use Rattle.circuit_run.specs.Outcomes.{Outcome}
use Rattle.design_meaning.specs.Steps.{all_do}
use Rattle.circuit_law.specs.Renoted.{renoted}
use Rattle.counted_circuit.specs.Inserted.{AreCounted}
use Rattle.counted_circuit.specs.Tells.{all_tell}

-- counters in the place of the numbers of arms
abbrev pub carrying : (ℕ → List ℕ) → Outcome ℕ → Outcome ℕ
carrying carried o = renoted carried o

-- steps with counts do what the steps without do, and raise what the entered arms carry
abbrev pub CountsWhatIsTold : Type 0
CountsWhatIsTold = (carried : ℕ → List ℕ) (n m : ℕ) (steps counted : List Step) (from : State)
    → AreCounted carried n steps counted m → all_do counted from ≡ carrying carried (all_tell steps n from)
