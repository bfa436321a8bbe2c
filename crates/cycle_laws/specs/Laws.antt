-- Laws of the ways in which a machine saves runs and copies of states.
use Rattle.std.specs.Prelude.{◌≡◌, ℕ, ◌+◌, ◌<◌, false, List, ◌∷◌, ◌++◌, length, IsTrue}
use Rattle.std.specs.List.{list_any}
use Rattle.design_tree.specs.declared.design.Design.{Design}
use Rattle.circuit_run.specs.States.{State, Bit, bit}
use Rattle.circuit_run.specs.Kinds.{settles, runs_at_edge}
use Rattle.circuit_run.specs.Edges.{IsBlockedFrom}
use Rattle.design_meaning.specs.States.{IsBitOf, IsStateOf}
use Rattle.design_meaning.specs.Steps.{run_of}
use Rattle.design_meaning.specs.Processes.{process_of, kind_of}
use Rattle.design_meaning.specs.Reach.{drives, sets_var}
use Rattle.design_meaning.specs.Circuit.{circuit_of}
use Rattle.design_meaning.specs.Valid.{IsValidDesign}
use Rattle.design_meaning.specs.FlowFaults.{Flows}
use Rattle.design_meaning.specs.Orders.{IsOrder}
use Rattle.design_meaning.specs.RunLaws.{after, has_bit, SameEffects}
use Rattle.design_meaning.specs.SettledLaws.{after_all}
use Rattle.cycle_laws.specs.Chains.{IsIdle, AreBlocked}

-- a process leaves each bit alone whose variable it doesn't assign at once
abbrev pub LeavesUnset : Type 0
LeavesUnset = (d : Design) (p : ℕ) (s : State) (b : Bit) → IsStateOf d s → IsBitOf d b → sets_var d p b.var ≡ false → bit (after d p s) b ≡ bit s b

-- what a process leaves for later has no bit that it doesn't drive
abbrev pub DefersDriven : Type 0
DefersDriven = (d : Design) (p : ℕ) (s : State) (b : Bit) → drives d p b ≡ false → list_any (λ part. has_bit part b) (run_of (process_of d p) s).updates ≡ false

-- A process that leaves a state alone leaves each other alone in which it reads and drives the same, and does the same
-- beside the state.
abbrev pub IdleStays : Type 0
IdleStays = (d : Design) (p : ℕ) (s t : State) → IsValidDesign d → Flows d → IsStateOf d s → IsStateOf d t → IsTrue (settles (kind_of d p))
    → after d p s ≡ s → IsIdle d p s t → (after d p t ≡ t) × SameEffects (run_of (process_of d p) s) (run_of (process_of d p) t)

-- A process in an order does the same beside the state where it stands in the order as in the settled state.
abbrev pub RestLeavesReads : Type 0
RestLeavesReads = (d : Design) (order front rest : List ℕ) (p : ℕ) (t : State) → IsValidDesign d → Flows d → IsOrder d order → order ≡ front ++ p ∷ rest
    → IsStateOf d t
    → SameEffects (run_of (process_of d p) t) (run_of (process_of d p) (after_all d (p ∷ rest) t))

-- In a design that flows one more process may be run where those before it have been run at the edge: it does the same
-- beside the state as from the first state alone, and its own values come to those that are there.
abbrev pub EdgesChain : Type 0
EdgesChain = (d : Design) (p : ℕ) (s t : State) → IsValidDesign d → Flows d → IsStateOf d s → IsStateOf d t → p < length d.processes
    → IsTrue (runs_at_edge (kind_of d p)) → AreBlocked d p s t
    → AreBlocked d (p + 1) s (after d p t) × SameEffects (run_of (process_of d p) t) (run_of (process_of d p) s)

-- with all of them run the last blocking values are there
abbrev pub ChainsEnd : Type 0
ChainsEnd = (d : Design) (s t : State) → IsValidDesign d → IsStateOf d s → IsStateOf d t → AreBlocked d (length d.processes) s t
    → IsBlockedFrom (circuit_of d) s t
