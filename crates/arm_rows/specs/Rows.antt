-- The rows of arms: what each arm is, and the forks of the no arms.
use Rattle.std.specs.Prelude.{◌≡◌, ℕ, ◌+◌, ◌<◌, ◌≤◌, Bool, true, false, List, [], ◌∷◌, ◌++◌, map, length, Contains, slice_index_or}
use Rattle.design_tree.specs.declared.step.StepArm.{StepArm, fold-StepArm}
use Rattle.design_tree.specs.declared.design.Process.{Process}
use Rattle.design_tree.specs.declared.design.Design.{Design}
use Rattle.circuit_run.specs.Lists.{total}
use Rattle.counted_circuit.specs.Sorts as sort
use Rattle.counted_circuit.specs.Sorts.{Sort}
use Rattle.counted_circuit.specs.Circuits.{arms_in}
use Rattle.counted_circuit.specs.Balance.{forks_in}
use Rattle.counted_circuit.specs.Tells.{Fork}
use Rattle.arm_rows.specs.declared.row.ArmRow.{ArmRow}
use Rattle.arm_rows.specs.declared.row.ArmRow.TheVariants as row

-- what an arm is
abbrev pub sort_of : ArmRow → Sort
sort_of row.Body = sort.body
sort_of row.Assignment = sort.assignment
sort_of row.Cover = sort.cover
sort_of row.Yes = sort.yes_arm
sort_of (row.No around y) = sort.no_arm
sort_of row.Listed = sort.listed
sort_of (row.NoMatch written) = sort.no_match written

-- an arm in which steps may stand that have arms
abbrev pub may_hold : ArmRow → Bool
may_hold row.Assignment = false
may_hold (row.NoMatch written) = written
may_hold _ = true

-- the row of an arm; past all arms, one that holds nothing
abbrev pub row_at : List ArmRow → ℕ → ArmRow
row_at rows n = slice_index_or rows n row.Assignment

-- steps may stand in the arm with this number
pub record MayHold (rows : List ArmRow) (n : ℕ) : Type 0 where
  pub within : n < length rows
  pub holds : may_hold (row_at rows n) ≡ true

-- the arm with the number n is the no arm of one of these forks: its row has the other numbers, which are less
pub record IsNoArm (forks : List Fork) (rows : List ArmRow) (n around y : ℕ) : Type 0 where
  pub fork : Contains forks (record { around = around; yes_arm = y; no_arm = n })
  pub before : around < y
  pub after : y < n
  pub yes_row : row_at rows y ≡ row.Yes
  pub around_row : MayHold rows around

-- Rows were put behind others: so many, of these sorts, and each no arm among them is that of one of these forks.
pub record Adds (arms : ℕ) (sorts : List Sort) (forks : List Fork) (old new : List ArmRow) : Type 0 where
  pub added : List ArmRow
  pub rows : new ≡ old ++ added
  pub many : length added ≡ arms
  pub sorts_are : map sort_of added ≡ sorts
  pub no_arms : (n around y : ℕ) → length old ≤ n → n < length new → row_at new n ≡ row.No around y → IsNoArm forks new n around y

-- the sorts of the arms in an arm of a `case`, itself first
abbrev pub sorts_of_arm : StepArm → List Sort
sorts_of_arm = fold-StepArm (List Sort) (List Sort) sort.step_sorts sort.arm_sorts

-- how many arms a process has, and of what sorts they are
abbrev pub arms_of_process : Process → ℕ
arms_of_process p = arms_in p.kind p.body

abbrev pub sorts_of_process : Process → List Sort
sorts_of_process p = sort.process_sorts p.kind p.body

-- the rows of a design, one for each arm
pub record AreRowsOf (d : Design) (rows : List ArmRow) : Type 0 where
  pub many : length rows ≡ total (map arms_of_process d.processes)
  pub sorts_are : map sort_of rows ≡ sort.arms_in d
  pub no_arms : (n around y : ℕ) → n < length rows → row_at rows n ≡ row.No around y → IsNoArm (forks_in d) rows n around y
