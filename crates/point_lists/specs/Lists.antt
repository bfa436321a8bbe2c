-- The plus and minus counters of arms, put behind those that are there.
use Rattle.std.specs.Prelude.{◌≡◌, ℕ, List, ◌++◌, Option, Some, Contains}
use Rattle.design_tree.specs.declared.design.Design.{Design}
use Rattle.counted_circuit.specs.DerivedLists.{HasLists}
use Rattle.mark_numbers.specs.Numbers.{number_at}
use Rattle.arm_rows.specs.declared.row.ArmRow.{ArmRow}
use Rattle.arm_counters.specs.Counters.{IsTold}

-- no two arms have the same counter
abbrev pub AreApart : List (Option ℕ) → Type 0
AreApart numbers = (m n c : ℕ) → number_at numbers m ≡ Some c → number_at numbers n ≡ Some c → m ≡ n

-- an arm has a counter
abbrev pub HasNumber : List (Option ℕ) → ℕ → Type 0
HasNumber numbers n = (c : ℕ) × (number_at numbers n ≡ Some c)

-- the entries of each of these arms can be told
abbrev pub AreTold : List ArmRow → List (Option ℕ) → List ℕ → Type 0
AreTold rows numbers arms = (n : ℕ) → Contains arms n → IsTold rows numbers n

-- the plus and minus counters of an arm, put behind others
pub record PutsLists (carried : ℕ → List ℕ) (d : Design) (arm : ℕ) (plus all_plus minus all_minus : List ℕ) : Type 0 where
  pub more_plus : List ℕ
  pub more_minus : List ℕ
  pub plus_is : all_plus ≡ plus ++ more_plus
  pub minus_is : all_minus ≡ minus ++ more_minus
  pub lists : HasLists carried d arm more_plus more_minus
