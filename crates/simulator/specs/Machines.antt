-- What contracts see of a machine, and how it stands in its run.
use Rattle.std.specs.Prelude.{◌≡◌, ℕ, ◌+◌, ◌*◌, ◌^◌, ◌≤◌, ◌==◌, Bool, false, List, length, replicate, slice_index}
use Rattle.design_tree.specs.declared.instrumented.Instrumented.{Instrumented}
use Rattle.circuit_run.specs.States.{State, Bit, bit}
use Rattle.circuit_run.specs.Runs.{IsStart as IsStartState}
use Rattle.design_meaning.specs.States.{IsStateOf}
use Rattle.design_meaning.specs.Settled.{IsUndrivenBit}
use Rattle.design_meaning.specs.Circuit.{circuit_of}
use Rattle.design_meaning.specs.Valid.{IsValid}
use Rattle.design_meaning.specs.FlowFaults.{Flows}
use Rattle.design_meaning.specs.Orders.{IsOrder}
use Rattle.design_meaning.specs.Cycles.{Between}
use Rattle.flat_design.specs.Effects.{Effects, room_of_all}
use Rattle.flow_order.specs.Orders.{OrderOf, AreReadsOf}
use Rattle.cycle_parts.specs.Raised.{Raised}
use Rattle.cycle_parts.specs.Toggles.{AreFirsts}
use Rattle.cycle_wakes.specs.Changes.{Changes, HasRoom}
use Rattle.cycle_wakes.specs.Wakes.{Wakes, AreWakesOf}
use Rattle.cycle_phases.specs.Others.{AreOthers}
use Rattle.cycle_settle.specs.Settling.{HasRooms, Follows}
use Rattle.cycle_run.specs.Lines.{Line}
use Rattle.cycle_run.specs.Ends.{settled_before}
use Rattle.cycle_run.specs.declared.end.CycleEnd.{CycleEnd}

-- The design and the order; what wakes its processes, which of them are no assignments, and the first toggle entry of each variable;
-- the state that registers are read from, the last settled state, and the counters that are kept of
-- each process's last run; what runs leave; the counters, the text of the last call, the number of cycles, how the last call
-- ended, and whether the run was started.
pub record Machine : Type 0 where
  pub design : Instrumented
  pub order : OrderOf
  pub wakes : Wakes
  pub others : List ℕ
  pub firsts : List ℕ
  pub state : State
  pub settled : State
  pub kept : List Raised
  pub changes : Changes
  pub effects : Effects
  pub counts : List ℕ
  pub line : Line
  pub cycles : ℕ
  pub end : CycleEnd
  pub started : Bool

-- the run between two cycles
abbrev pub between : Machine → Between
between m = record { registers = m.state; last_settled = settled_before (m.cycles == 0) m.settled; counts = m.counts }

-- the text of the last call
abbrev pub text_of : Machine → List ℕ
text_of m = m.line.bytes

-- a design that can be run, with an order of it and what its processes read
pub record CanRun (x : Instrumented) (order : OrderOf) : Type 0 where
  pub valid : IsValid x
  pub flows : Flows x.design
  pub is_order : IsOrder x.design order.processes
  pub reads : AreReadsOf x.design order.reads

-- what a cycle raises at most
abbrev pub most_raised : Instrumented → ℕ
most_raised x = (room_of_all x.design).counters + (room_of_all x.design).counters + length x.toggles

-- a machine that has not been started holds the start state, and no counter is raised
pub record IsFresh (m : Machine) : Type 0 where
  pub start : IsStartState (circuit_of m.design.design) m.state
  pub counts : m.counts ≡ replicate m.design.counters 0
  pub cycles : m.cycles ≡ 0

-- A machine stands in a run of its design: its states are states of the design, and undriven wires are 0. From the second
-- cycle on the state follows the last settled one. There is room for all that is raised and printed in a cycle.
pub record IsSound (m : Machine) : Type 0 where
  pub can_run : CanRun m.design m.order
  pub state : IsStateOf m.design.design m.state
  pub settled : IsStateOf m.design.design m.settled
  pub undriven : (b : Bit) → IsUndrivenBit m.design.design b → bit m.state b ≡ 0
  pub follows : (m.cycles == 0) ≡ false → Follows m.design.design m.settled m.state m.kept
  pub rooms : HasRooms m.design.design m.kept
  pub wakes : AreWakesOf m.design.design m.order.processes m.wakes
  pub others : AreOthers m.design.design m.others
  pub firsts : AreFirsts (length m.design.design.vars) m.design.toggles m.firsts
  pub changes : HasRoom (length m.order.processes) (length m.design.design.vars) m.changes
  pub room : m.effects.room ≡ room_of_all m.design.design
  pub columns : 33 * length m.design.design.outputs + 1 + (room_of_all m.design.design).bytes ≤ m.line.room
  pub counters : length m.counts ≡ m.design.counters
  pub raises : most_raised m.design ≤ 2 ^ 26
  pub few : (k : ℕ) → slice_index m.counts k ≤ (m.cycles + 1) * 2 ^ 26
  pub fresh : m.started ≡ false → IsFresh m

-- all but the run stays
pub record SameRun (old new : Machine) : Type 0 where
  pub design : new.design ≡ old.design
  pub order : new.order ≡ old.order
