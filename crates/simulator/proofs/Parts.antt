-- From what the parts of a call leave to the run, and to how the machine stands in it.
use Rattle.std.proofs.Common.{◌≡◌, ◌∙◌, sym, ap, subst, refl, true, false, true≢false, ℕ, zero, suc, ◌+◌, ◌*◌, ◌<◌, ◌≤◌, ◌^◌, ◌==◌, Bool, List, []}
use Rattle.std.proofs.Common.{◌++◌, length, arith}
use Rattle.std.specs.Prelude.{Option, replicate, slice_index}
use Rattle.cov_types.specs.declared.kind.ProcessKind.{ProcessKind}
use Rattle.circuit_run.specs.States.{State, bit}
use Rattle.circuit_run.specs.Writes.{all_written}
use Rattle.circuit_run.specs.Kinds.{is_initial, runs_at_edge}
use Rattle.circuit_run.specs.Ends.{end_of}
use Rattle.circuit_run.specs.Runs.{output_line}
use Rattle.design_meaning.specs.Counters.{HasCounted, toggled}
use Rattle.design_meaning.specs.Cycles.{IsCycle, IsStart}
use Rattle.design_meaning.specs.Settled.{IsSettled}
use Rattle.design_meaning.specs.States.{IsStateOf}
use Rattle.design_meaning.specs.Valid.{IsValidDesign}
use Rattle.flat_design.specs.Effects.{Effects, room_of_all}
use Rattle.cycle_parts.specs.Raised.{Raised}
use Rattle.cycle_wakes.specs.Changes.{Changes, HasRoom}
use Rattle.cycle_phases.specs.Phases.{turns}
use Rattle.cycle_settle.specs.Settling.{AreRaised, Follows, HasRooms}
use Rattle.cycle_run.specs.Ends.{end_seen, settled_before}
use Rattle.cycle_run.specs.Lines.{Line}
use Rattle.cycle_run.specs.Tally.{CanRaise, comb_raised}
use Rattle.cycle_run.specs.declared.end.CycleEnd.{CycleEnd}
use Rattle.cycle_run.proofs.EdgeLaws.{edge_follows, edge_writes_regs, start_writes_regs, wires_stay}
use Rattle.cycle_run.proofs.RunLaws.{cycles, few_more, few_settled, not_first, starts}
use Rattle.cycle_run.proofs.TallyLaws.{are_few, comb_few}
use Rattle.simulator.specs.Machines.{IsFresh, IsSound, Machine, between}
use Rattle.simulator.proofs.Sound.{few_after}

valid_design : (m : Machine) → IsSound m → IsValidDesign m.design.design
valid_design m h = (m.design, h.can_run.valid, refl)

-- the processes of some kinds were run on a state to their end, with some counters and some text before
pub record IsClosed (sort : ProcessKind → Bool) (m : Machine) (s : State) (mid text : List ℕ) (now : State) (effects : Effects)
    (counts : List ℕ) (line : Line) (end : CycleEnd) : Type 0 where
  pub leaves : now ≡ all_written (turns sort m.design.design s).state (turns sort m.design.design s).updates
  pub prints : line ≡ record { bytes = text ++ (turns sort m.design.design s).text; room = m.line.room }
  pub counted : HasCounted mid (turns sort m.design.design s).notes counts
  pub ends : end_seen end ≡ end_of (turns sort m.design.design s).finished (turns sort m.design.design s).stopped
  pub of_design : IsStateOf m.design.design now
  pub room : effects.room ≡ m.effects.room
  pub raised : length (turns sort m.design.design s).notes ≤ (room_of_all m.design.design).counters

-- the room of the line stays
columns_stay : (a b : ℕ) (m : Machine) (text : List ℕ) (line : Line)
    → line ≡ record { bytes = text; room = m.line.room } → a + b ≤ m.line.room → a + b ≤ line.room
columns_stay a b m text line e h = omega (arith, h, ap (λ (l : Line). l.room) e)

pub zeros : (n k : ℕ) → slice_index (replicate n 0) k ≡ 0
zeros zero k = refl
zeros (suc n) zero = refl
zeros (suc n) (suc k) = zeros n k

-- ---- the start

abbrev pub started : Machine → State → Effects → List ℕ → Line → CycleEnd → Machine
started m now effects counts line end = record m { state = now; effects = effects; counts = counts; line = line; end = end; started = true }

module _ (m : Machine) (now : State) (effects : Effects) (counts : List ℕ) (line : Line) (end : CycleEnd)
    (sound : IsSound m) (first : m.started ≡ false) (h : IsClosed is_initial m m.state m.counts [] now effects counts line end) where
  fresh : IsFresh m
  fresh = sound.fresh first

  pub start_runs : IsStart m.design (between (started m now effects counts line end)) line.bytes (end_seen end)
  start_runs = subst (λ (u : Option State). IsStart m.design (record { registers = now; last_settled = u; counts = counts }) line.bytes (end_seen end))
      (sym (ap (λ n. settled_before (n == 0) m.settled) fresh.cycles))
      (starts m.design m.state now m.counts counts line.bytes (end_seen end) fresh.start fresh.counts
      h.leaves h.counted (ap (λ (l : Line). l.bytes) h.prints) h.ends)

  few_started : (k : ℕ) → slice_index counts k ≤ (m.cycles + 1) * 2 ^ 26
  few_started k = omega (
    arith,
    ap (λ l. slice_index l k) fresh.counts,
    zeros m.design.counters k,
    few_more m.counts counts (turns is_initial m.design.design m.state).notes (room_of_all m.design.design).counters k h.counted h.raised,
    sound.raises,
  )

  pub start_sound : IsSound (started m now effects counts line end)
  start_sound = record {
    can_run = sound.can_run;
    state = h.of_design;
    settled = sound.settled;
    undriven = λ b u.
        ap (λ s. bit s b) h.leaves ∙ wires_stay m.design.design is_initial start_writes_regs m.state (valid_design m sound) sound.state sound.undriven b u;
    follows = λ e. absurd (true≢false (sym (ap (λ n. n == 0) fresh.cycles) ∙ e));
    rooms = sound.rooms;
    wakes = sound.wakes;
    others = sound.others;
    firsts = sound.firsts;
    changes = sound.changes;
    room = h.room ∙ sound.room;
    columns = columns_stay _ _ m _ line h.prints sound.columns;
    counters = h.counted.as_many ∙ sound.counters;
    raises = sound.raises;
    few = few_started;
    fresh = λ e. absurd (true≢false e);
  }

-- ---- a cycle

-- what a settled state of the next cycle raises
abbrev pub settled_raises : Machine → State → List ℕ
settled_raises m s = comb_raised m.design.design s ++ toggled (settled_before (m.cycles == 0) m.settled) s m.design.toggles

-- a row was settled, and the settled state was counted
pub record IsSettledCount (m : Machine) (row : List ℕ) (s : State) (kept : List Raised) (mid : List ℕ) : Type 0 where
  pub settled : IsSettled m.design.design m.state row s
  pub raised : AreRaised m.design.design s kept
  pub rooms : HasRooms m.design.design kept
  pub counted : HasCounted m.counts (settled_raises m s) mid

pub row_counted : (m : Machine) (row values : List ℕ) (s : State) (kept : List Raised) (before mid : List ℕ) → values ≡ row → before ≡ m.counts
    → IsSettled m.design.design m.state values s → AreRaised m.design.design s kept → HasRooms m.design.design kept
    → HasCounted before (settled_raises m s) mid → IsSettledCount m row s kept mid
row_counted m row values s kept before mid e f settled raised rooms counted = record {
  settled = subst (λ (l : List ℕ). IsSettled m.design.design m.state l s) e settled;
  raised = raised;
  rooms = rooms;
  counted = subst (λ (l : List ℕ). HasCounted l (settled_raises m s) mid) f counted;
}

-- with other marks of what has changed
abbrev pub marked : Machine → Changes → Machine
marked m changes = record m { changes = changes }

pub marked_sound : (m : Machine) (changes : Changes) → IsSound m → HasRoom (length m.order.processes) (length m.design.design.vars) changes
    → IsSound (marked m changes)
marked_sound m changes sound room = record {
  can_run = sound.can_run;
  state = sound.state;
  settled = sound.settled;
  undriven = sound.undriven;
  follows = sound.follows;
  rooms = sound.rooms;
  wakes = sound.wakes;
  others = sound.others;
  firsts = sound.firsts;
  changes = room;
  room = sound.room;
  columns = sound.columns;
  counters = sound.counters;
  raises = sound.raises;
  few = sound.few;
  fresh = λ e. record { start = (sound.fresh e).start; counts = (sound.fresh e).counts; cycles = (sound.fresh e).cycles };
}

-- both stand whatever is marked
pub marked_count : (m : Machine) (changes : Changes) (row : List ℕ) (s : State) (kept : List Raised) (mid : List ℕ) → IsSettledCount m row s kept mid
    → IsSettledCount (marked m changes) row s kept mid
marked_count m changes row s kept mid h = record { settled = h.settled; raised = h.raised; rooms = h.rooms; counted = h.counted }

pub marked_closed : (m : Machine) (changes : Changes) (sort : ProcessKind → Bool) (s : State) (mid text : List ℕ) (now : State) (effects : Effects)
    (counts : List ℕ) (line : Line) (end : CycleEnd) → IsClosed sort m s mid text now effects counts line end
    → IsClosed sort (marked m changes) s mid text now effects counts line end
marked_closed m changes sort s mid text now effects counts line end h = record {
  leaves = h.leaves;
  prints = h.prints;
  counted = h.counted;
  ends = h.ends;
  of_design = h.of_design;
  room = h.room;
  raised = h.raised;
}

module _ (m : Machine) (row : List ℕ) (s : State) (kept : List Raised) (mid : List ℕ) (sound : IsSound m) (h : IsSettledCount m row s kept mid) where
  few_mid : (k : ℕ) → slice_index mid k ≤ slice_index m.counts k + (room_of_all m.design.design).counters + length m.design.toggles
  few_mid k =
      let d = m.design.design in
      let few = are_few d s kept (valid_design m sound) h.settled.agrees.is_state h.rooms.as_many h.raised in
      few_settled (settled_before (m.cycles == 0) m.settled) s m.design.toggles m.counts mid (comb_raised d s) (room_of_all d).counters k
      h.counted (comb_few d s kept few h.raised)

  pub edge_fits : m.cycles < 2 ^ 32 → CanRaise mid (room_of_all m.design.design).counters
  edge_fits few k = omega (arith, few_mid k, sound.few k, sound.raises, few)

abbrev pub cycled : Machine → State → List Raised → State → Effects → List ℕ → Line → CycleEnd → Machine
cycled m settled kept now effects counts line end = record m {
  state = now;
  settled = settled;
  kept = kept;
  effects = effects;
  counts = counts;
  line = line;
  cycles = m.cycles + 1;
  end = end;
}

module _ (m : Machine) (row : List ℕ) (s : State) (kept : List Raised) (mid : List ℕ) (now : State) (effects : Effects) (counts : List ℕ)
    (line : Line) (end : CycleEnd) (sound : IsSound m) (h : IsSettledCount m row s kept mid)
    (e : IsClosed runs_at_edge m s mid (output_line m.design.design.outputs s) now effects counts line end) where
  pub cycle_runs : IsCycle m.design (between m) row (between (cycled m s kept now effects counts line end)) line.bytes (end_seen end)
  cycle_runs = subst
      (λ (u : Option State). IsCycle m.design (between m) row (record { registers = now; last_settled = u; counts = counts }) line.bytes (end_seen end))
      (sym (ap (λ f. settled_before f s) (not_first m.cycles)))
      (cycles m.design (m.cycles == 0) m.state m.settled s now row m.counts mid counts line.bytes (end_seen end)
      (valid_design m sound) sound.can_run.flows h.settled h.counted e.leaves e.counted
      (ap (λ (l : Line). l.bytes) e.prints) e.ends)

  few_cycled : (k : ℕ) → slice_index counts k ≤ (m.cycles + 1 + 1) * 2 ^ 26
  few_cycled k = few_after (slice_index m.counts k) (slice_index mid k) (slice_index counts k) m.cycles (length m.design.toggles)
      (room_of_all m.design.design).counters (sound.few k) (few_mid m row s kept mid sound h k)
      (few_more mid counts (turns runs_at_edge m.design.design s).notes (room_of_all m.design.design).counters k e.counted e.raised) sound.raises

  pub cycle_sound : m.started ≡ true → IsSound (cycled m s kept now effects counts line end)
  cycle_sound on = record {
    can_run = sound.can_run;
    state = e.of_design;
    settled = h.settled.agrees.is_state;
    undriven = λ b u.
        ap (λ t. bit t b) e.leaves ∙ wires_stay m.design.design runs_at_edge edge_writes_regs s
        (valid_design m sound) h.settled.agrees.is_state h.settled.agrees.undriven b u;
    follows = λ _. subst (λ t. Follows m.design.design s t kept) (sym e.leaves)
        (edge_follows m.design.design m.state s row kept (valid_design m sound) sound.can_run.flows h.settled h.raised);
    rooms = h.rooms;
    wakes = sound.wakes;
    others = sound.others;
    firsts = sound.firsts;
    changes = sound.changes;
    room = e.room ∙ sound.room;
    columns = columns_stay _ _ m _ line e.prints sound.columns;
    counters = e.counted.as_many ∙ h.counted.as_many ∙ sound.counters;
    raises = sound.raises;
    few = few_cycled;
    fresh = λ f. absurd (true≢false (sym on ∙ f));
  }
