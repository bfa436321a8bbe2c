-- What contracts see of effects: what runs have left so far, beside the state, and the room for more.
use Rattle.std.specs.Prelude.{ℕ, ◌+◌, ◌≤◌, Bool, false, ◌||◌, List, [], ◌++◌, map, flat_map, length}
use Rattle.design_tree.specs.declared.design.Process.{Process}
use Rattle.design_tree.specs.declared.design.Design.{Design}
use Rattle.circuit_run.specs.Writes.{Part}
use Rattle.circuit_run.specs.Outcomes.{Outcome}
use Rattle.circuit_run.specs.Lists.{total}
use Rattle.design_meaning.specs.Mentions.{Mention, mentions_of, mention_length, mention_targets, mention_counters}

-- how many updates, bytes of text and counters
pub record Room : Type 0 where
  pub updates : ℕ
  pub bytes : ℕ
  pub counters : ℕ

pub record Effects : Type 0 where
  pub updates : List Part
  pub text : List ℕ
  pub raised : List ℕ
  pub finished : Bool
  pub stopped : Bool
  pub room : Room

-- room for both
abbrev pub sum_of : Room → Room → Room
sum_of a b = record { updates = a.updates + b.updates; bytes = a.bytes + b.bytes; counters = a.counters + b.counters }

-- empty effects with some room
abbrev pub empty : Room → Effects
empty room = record { updates = []; text = []; raised = []; finished = false; stopped = false; room = room }

-- what a run leaves beside the state, behind what is there
abbrev pub added : Effects → Outcome ℕ → Effects
added e o = record e {
  updates = e.updates ++ o.updates;
  text = e.text ++ o.text;
  raised = e.raised ++ o.notes;
  finished = e.finished || o.finished;
  stopped = e.stopped || o.stopped;
}

-- the room for what steps mention: all their targets, the greatest length of all their texts, all their `count` steps
abbrev pub room_for : Design → List Mention → Room
room_for d ms = record {
  updates = length (flat_map mention_targets ms);
  bytes = total (map (mention_length d) ms);
  counters = length (flat_map mention_counters ms);
}

-- the room of one run of a process
abbrev pub room_of : Design → Process → Room
room_of d p = room_for d (mentions_of p)

-- the room of one run of each process
abbrev pub room_of_all : Design → Room
room_of_all d = record {
  updates = total (map (λ p. (room_of d p).updates) d.processes);
  bytes = total (map (λ p. (room_of d p).bytes) d.processes);
  counters = total (map (λ p. (room_of d p).counters) d.processes);
}

-- so much room is left
pub record HasRoom (e : Effects) (more : Room) : Type 0 where
  pub for_updates : length e.updates + more.updates ≤ e.room.updates
  pub for_bytes : length e.text + more.bytes ≤ e.room.bytes
  pub for_counters : length e.raised + more.counters ≤ e.room.counters

-- a run has left at most so much
pub record IsWithin (o : Outcome ℕ) (most : Room) : Type 0 where
  pub updates : length o.updates ≤ most.updates
  pub bytes : length o.text ≤ most.bytes
  pub counters : length o.notes ≤ most.counters
