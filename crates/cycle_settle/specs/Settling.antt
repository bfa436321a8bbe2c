-- What stands before a cycle is settled, and what settling leaves.
use Rattle.std.specs.Prelude.{◌≡◌, ◌≢◌, ℕ, ◌+◌, ◌<◌, ◌≤◌, ◌⊎◌, Bool, true, false, List, length, All, AllPairs, IsTrue, slice_index_or, slice_set}
use Rattle.design_tree.specs.declared.design.Design.{Design}
use Rattle.circuit_run.specs.States.{State, Bit, bit}
use Rattle.circuit_run.specs.Kinds.{settles}
use Rattle.design_meaning.specs.States.{IsBitOf}
use Rattle.design_meaning.specs.Steps.{run_of}
use Rattle.design_meaning.specs.Processes.{process_of, kind_of}
use Rattle.design_meaning.specs.Reach.{reads_bit, drives}
use Rattle.design_meaning.specs.RunLaws.{after}
use Rattle.flat_design.specs.Effects.{room_of}
use Rattle.flow_order.specs.Orders.{OrderOf, HasChanged, reads_for}
use Rattle.cycle_parts.specs.Raised.{Raised, none_raised}
use Rattle.cycle_wakes.specs.Changes.{Changes, IsNoted, KeepsMarks}
use Rattle.cycle_wakes.specs.Wakes.{Wakes, targets_of}

-- what is kept of a process
abbrev pub kept_of : List Raised → ℕ → Raised
kept_of kept p = slice_index_or kept p (none_raised 0)

-- for each process there is room for the counters of one run
pub record HasRooms (d : Design) (kept : List Raised) : Type 0 where
  pub as_many : length kept ≡ length d.processes
  pub rooms : (p : ℕ) → p < length d.processes → (kept_of kept p).room ≡ (room_of d (process_of d p)).counters

-- the counters that a run of a process raises
abbrev pub raised_by : Design → ℕ → State → List ℕ
raised_by d p s = (run_of (process_of d p) s).notes

-- of each assignment and combinational process those are kept that its run from a state raises
abbrev pub AreRaised : Design → State → List Raised → Type 0
AreRaised d s kept = (p : ℕ) → IsTrue (settles (kind_of d p)) → (kept_of kept p).counters ≡ raised_by d p s

-- A state follows a settled one: each assignment and combinational process leaves the settled one alone, the bits that it
-- drives are those of the settled state, and so are the counters that are kept of it.
pub record Follows (d : Design) (before now : State) (kept : List Raised) : Type 0 where
  pub still : (p : ℕ) → IsTrue (settles (kind_of d p)) → after d p before ≡ before
  pub alike : (p : ℕ) (b : Bit) → IsTrue (settles (kind_of d p)) → IsBitOf d b → IsTrue (drives d p b) → bit now b ≡ bit before b
  pub raised : AreRaised d before kept

-- A process is active where a bit that it reads differs in two settled states; in the first cycle each is.
pub record IsActive (d : Design) (before now : State) (p : ℕ) : Type 0 where
  pub differs : Bit
  pub here : IsBitOf d differs
  pub read : IsTrue (reads_bit d p differs)
  pub apart : bit now differs ≢ bit before differs

abbrev pub ActiveIn : Bool → Design → State → State → ℕ → Type 0
ActiveIn true d before now p = Unit {0}
ActiveIn false d before now p = IsActive d before now p

-- The number of ticks has grown by no more than there are active assignments and combinational processes: by at most one for
-- each of some of them, in which none stands twice.
pub record TicksActive (first : Bool) (d : Design) (before now : State) (old new : ℕ) : Type 0 where
  pub ran : List ℕ
  pub once : AllPairs (λ p q. p ≢ q) ran
  pub settling : All (λ p. IsTrue (settles (kind_of d p))) ran
  pub active : All (ActiveIn first d before now) ran
  pub few : new ≤ old + length ran

-- ---- one process

-- what a run of it leaves, and how the counters are kept
pub record IsRun (d : Design) (p : ℕ) (old new : State) (kept kept_new : List Raised) : Type 0 where
  pub state : new ≡ after d p old
  pub raised : kept_new ≡ slice_set kept p (record (kept_of kept p) { counters = raised_by d p old })

-- it is run, and it has to be, or it is skipped
pub record IsRan (all : Bool) (d : Design) (order : OrderOf) (p : ℕ) (before old new : State) (kept kept_new : List Raised) (ticks ticks_new : ℕ) : Type 0 where
  pub wanted : (all ≡ true) ⊎ HasChanged (reads_for order p) old before
  pub run : IsRun d p old new kept kept_new
  pub ticked : ticks_new ≡ ticks + 1

pub record IsSkipped (all : Bool) (order : OrderOf) (p : ℕ) (before old new : State) (kept kept_new : List Raised) (ticks ticks_new : ℕ) : Type 0 where
  pub goes_on : all ≡ false
  pub idle : HasChanged (reads_for order p) old before → ⊥
  pub state : new ≡ old
  pub raised : kept_new ≡ kept
  pub ticked : ticks_new ≡ ticks

-- what it writes has been noted
pub record HasNoted (w : Wakes) (p : ℕ) (old new : Changes) : Type 0 where
  pub keeps : KeepsMarks old new
  pub noted : All (IsNoted w new) (targets_of w p)
