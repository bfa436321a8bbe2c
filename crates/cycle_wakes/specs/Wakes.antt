-- What wakes the processes of an order: who reads each variable, which variables each process writes, which may change otherwise.
use Rattle.std.specs.Prelude.{◌≡◌, ℕ, ◌<◌, ◌⊎◌, List, [], All, Contains, IsTrue, length, slice_index_or}
use Rattle.design_tree.specs.declared.design.Design.{Design}
use Rattle.circuit_run.specs.States.{Bit}
use Rattle.circuit_run.specs.Kinds.{settles}
use Rattle.design_meaning.specs.States.{IsBitOf}
use Rattle.design_meaning.specs.Processes.{kind_of}
use Rattle.design_meaning.specs.Reach.{reads_bit, drives}

-- for each variable places in the order, for each process variables, and variables
pub record Wakes : Type 0 where
  pub readers : List (List ℕ)
  pub targets : List (List ℕ)
  pub sources : List ℕ

abbrev pub readers_of : Wakes → ℕ → List ℕ
readers_of w v = slice_index_or w.readers v []

abbrev pub targets_of : Wakes → ℕ → List ℕ
targets_of w p = slice_index_or w.targets p []

-- an assignment or combinational process drives all bits of a variable
pub record DrivesAll (d : Design) (p v : ℕ) : Type 0 where
  pub settling : IsTrue (settles (kind_of d p))
  pub all : (b : Bit) → IsBitOf d b → b.var ≡ v → IsTrue (drives d p b)

-- Of each bit that a process of the order reads its variable has the process's place among its readers. Of each bit that a
-- process drives the variable is among its targets. A variable is a source, or a process of the order drives all its bits.
pub record AreWakesOf (d : Design) (order : List ℕ) (w : Wakes) : Type 0 where
  pub many_variables : length w.readers ≡ length d.vars
  pub many_processes : length w.targets ≡ length d.processes
  pub read : (k : ℕ) (b : Bit) → k < length order → IsBitOf d b → IsTrue (reads_bit d (slice_index_or order k 0) b) → Contains (readers_of w b.var) k
  pub driven : (p : ℕ) (b : Bit) → p < length d.processes → IsBitOf d b → IsTrue (drives d p b) → Contains (targets_of w p) b.var
  pub sources : (v : ℕ) → v < length d.vars → Contains w.sources v ⊎ ((p : ℕ) × DrivesAll d p v)
  pub readers_in : (v : ℕ) → All (λ k. k < length order) (readers_of w v)
  pub targets_in : (p : ℕ) → All (λ v. v < length d.vars) (targets_of w p)
  pub sources_in : All (λ v. v < length d.vars) w.sources
