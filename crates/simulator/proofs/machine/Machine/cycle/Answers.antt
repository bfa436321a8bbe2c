use Rattle.std.proofs.Common.{◌≡◌, ◌∙◌, sym, ap, subst, true, false, ℕ, ◌<◌, ◌^◌, List, ◌++◌, length}
use Rattle.std.specs.Vec.{with_items}
use Rattle.std.proofs.lemmas.List.{with_items_is}
use Rattle.circuit_run.specs.Kinds.{runs_at_edge}
use Rattle.circuit_run.specs.Runs.{output_line}
use Rattle.circuit_run.specs.States.{State}
use Rattle.design_meaning.specs.Counters.{HasCounted}
use Rattle.design_meaning.specs.Cycles.{IsCycle}
use Rattle.place_marks.specs.Marked.{is_marked}
use Rattle.cycle_parts.specs.Raised.{Raised}
use Rattle.cycle_phases.specs.Phases.{turns}
use Rattle.cycle_run.specs.Ends.{end_seen}
use Rattle.cycle_run.specs.Lines.{Line}
use Rattle.cycle_run.specs.Tally.{CanRaise}
use Rattle.flat_design.specs.Effects.{room_of_all}
use Rattle.simulator.specs.Machines.{IsSound, Machine, between}
use Rattle.simulator.proofs.Parts.{IsClosed, IsSettledCount, cycle_runs, cycle_sound, cycled, edge_fits, marked}
use Rattle.simulator.proofs.Parts.{marked_closed, marked_count, marked_sound, row_counted}
use Rattle.simulator.proofs.machine.Machine.cycle.Given as given
use Rattle.simulator.proofs.machine.Machine.cycle.Goals as goal

-- the machine before
abbrev old : (g : given.Over) → goal.After-end-1 g → Machine
old g c = record {
  design = c.self.inside.design.now;
  order = c.self.inside.order.now;
  wakes = c.self.inside.wakes;
  others = c.self.inside.others;
  firsts = c.self.inside.firsts.items;
  state = c.self.inside.state;
  settled = c.self.inside.settled;
  kept = c.self.inside.kept.items;
  changes = c.self.inside.changes;
  effects = c.self.inside.effects;
  counts = c.self.inside.counts.items;
  line = c.self.inside.line;
  cycles = c.self.inside.cycles;
  end = c.self.inside.end;
  started = c.self.inside.started;
}

sound : (g : given.Over) (c : goal.After-end-1 g) → IsSound (old g c)
sound g c = subst IsSound (sym c.self.view_is) c.requires.sound

settled_count : (g : given.Over) (c : goal.After-end-1 g)
    → IsSettledCount (old g c) c.args.row.now.values c.settle_row.new.state c.settle_row.new.kept c.count_settled.new.counts
settled_count g c =
    row_counted (old g c) c.args.row.now.values c.as_slice.result.now c.settle_row.new.state c.settle_row.new.kept c.as_mut_slice-2.result.now
    c.count_settled.new.counts
    c.as_slice.ensures c.as_mut_slice-2.ensures.value c.settle_row.ensures.settled c.settle_row.ensures.raised
    c.settle_row.ensures.rooms c.count_settled.ensures

-- the counters after the settled state
mid_is : (g : given.Over) (c : goal.After-end-1 g)
    → (with_items c.self.inside.counts c.count_settled.new.counts).items ≡ c.count_settled.new.counts
mid_is g c =
    with_items_is c.self.inside.counts c.count_settled.new.counts ((settled_count g c).counted.as_many ∙ sym c.self.inside.counts.ok.0)

kept_are : (g : given.Over) (c : goal.After-end-1 g)
    → (with_items c.self.inside.kept c.settle_row.new.kept).items ≡ c.settle_row.new.kept
kept_are g c =
    with_items_is c.self.inside.kept c.settle_row.new.kept
    ((settled_count g c).rooms.as_many ∙ sym (sound g c).rooms.as_many ∙ sym c.self.inside.kept.ok.0)

closed : (g : given.Over) (c : goal.After-end-1 g)
    → IsClosed runs_at_edge (old g c) c.settle_row.new.state c.count_settled.new.counts
    (output_line c.self.inside.design.now.design.outputs c.settle_row.new.state)
    c.close_phase-end.new.now c.close_phase-end.new.effects c.close_phase-end.new.counts c.close_phase-end.new.line c.close_phase-end.result
closed g c =
    let s = c.settle_row.new.state in
    let o = turns runs_at_edge c.self.inside.design.now.design s in
    record {
      leaves = c.close_phase-end.ensures.now;
      prints = c.close_phase-end.ensures.text
          ∙ ap (λ (l : Line). record { bytes = l.bytes ++ o.text; room = l.room }) c.print_outputs.ensures.text
          ∙ ap (λ (outputs : List ℕ). record { bytes = output_line outputs s ++ o.text; room = c.self.inside.line.room }) c.as_slice-4.ensures;
      counted = subst (λ (l : List ℕ). HasCounted l o.notes c.close_phase-end.new.counts) (c.as_mut_slice-3.ensures.value ∙ mid_is g c)
          c.close_phase-end.ensures.counts;
      ends = c.close_phase-end.ensures.end;
      of_design = c.close_phase-end.ensures.of_design;
      room = c.close_phase-end.ensures.room ∙ c.settle_row.ensures.room;
      raised = c.close_phase-end.ensures.raised;
    }

counts_are : (g : given.Over) (c : goal.After-end-1 g)
    → (with_items (with_items c.self.inside.counts c.count_settled.new.counts) c.close_phase-end.new.counts).items ≡ c.close_phase-end.new.counts
counts_are g c = with_items_is (with_items c.self.inside.counts c.count_settled.new.counts) c.close_phase-end.new.counts
    ((closed g c).counted.as_many ∙ (settled_count g c).counted.as_many ∙ sym c.self.inside.counts.ok.0)

pub count_settled-requires-clause-changed : goal.count_settled-requires-clause-changed
count_settled-requires-clause-changed g c e v lt unmarked =
    c.settle_row.ensures.changed e v lt (subst (λ (marks : List ℕ). is_marked marks v ≡ false) c.vars.ensures unmarked)

pub close_phase-end-requires-clause-fit : goal.close_phase-end-requires-clause-fit
close_phase-end-requires-clause-fit g c =
    let mid = c.count_settled.new.counts in
    let sound = subst IsSound (sym c.self.view_is) c.requires.sound in
    let few : c.self.inside.cycles < 2 ^ 32 = subst (λ (m : Machine). m.cycles < 2 ^ 32) (sym c.self.view_is) c.requires.few in
    let many = c.count_settled.ensures.as_many ∙ ap (λ (l : List ℕ). length l) c.as_mut_slice-2.ensures.value ∙ sym c.self.inside.counts.ok.0 in
    subst (λ (l : List ℕ). CanRaise l (room_of_all c.self.inside.design.now.design).counters)
    (sym (c.as_mut_slice-3.ensures.value ∙ with_items_is c.self.inside.counts mid many))
    (edge_fits _ c.args.row.now.values c.settle_row.new.state c.settle_row.new.kept mid sound
    (row_counted _ c.args.row.now.values c.as_slice.result.now c.settle_row.new.state c.settle_row.new.kept c.as_mut_slice-2.result.now mid
    c.as_slice.ensures c.as_mut_slice-2.ensures.value c.settle_row.ensures.settled c.settle_row.ensures.raised
    c.settle_row.ensures.rooms c.count_settled.ensures) few)

pub returns-clause-run : goal.returns-clause-run
returns-clause-run g c =
    let m = old g c in
    let s = c.settle_row.new.state in
    let e = c.close_phase-end.new in
    let end = c.close_phase-end.result in
    let row = c.args.row.now.values in
    let kept = (with_items c.self.inside.kept c.settle_row.new.kept).items in
    let counts = (with_items (with_items c.self.inside.counts c.count_settled.new.counts) e.counts).items in
    rw (← c.self.view_is)
    (subst (λ (t : State). IsCycle m.design (between m) row (between (cycled m t kept e.now e.effects counts e.line end)) e.line.bytes (end_seen end))
    (sym c.copy_state.ensures)
    (subst (λ (l : List ℕ). IsCycle m.design (between m) row (between (cycled m s kept e.now e.effects l e.line end)) e.line.bytes (end_seen end))
    (sym (counts_are g c))
    (cycle_runs m row s c.settle_row.new.kept c.count_settled.new.counts e.now e.effects e.counts e.line end (sound g c) (settled_count g c) (closed g c))))

pub returns-clause-sound : goal.returns-clause-sound
returns-clause-sound g c =
    let m = marked (old g c) c.settle_row.new.changes in
    let still = marked_sound (old g c) c.settle_row.new.changes (sound g c) c.settle_row.ensures.changes in
    let s = c.settle_row.new.state in
    let e = c.close_phase-end.new in
    let end = c.close_phase-end.result in
    let kept = (with_items c.self.inside.kept c.settle_row.new.kept).items in
    let counts = (with_items (with_items c.self.inside.counts c.count_settled.new.counts) e.counts).items in
    let on : c.self.inside.started ≡ true = ap (λ (m : Machine). m.started) c.self.view_is ∙ c.requires.started in
    subst (λ (t : State). IsSound (cycled m t kept e.now e.effects counts e.line end)) (sym c.copy_state.ensures)
    (subst (λ (k : List Raised). IsSound (cycled m s k e.now e.effects counts e.line end)) (sym (kept_are g c))
    (subst (λ (l : List ℕ). IsSound (cycled m s c.settle_row.new.kept e.now e.effects l e.line end)) (sym (counts_are g c))
    (cycle_sound m c.args.row.now.values s c.settle_row.new.kept c.count_settled.new.counts e.now e.effects e.counts e.line end
    still (marked_count (old g c) c.settle_row.new.changes _ _ _ _ (settled_count g c))
    (marked_closed (old g c) c.settle_row.new.changes _ _ _ _ _ _ _ _ _ (closed g c)) on)))
