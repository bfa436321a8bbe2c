use Rattle.std.proofs.Common.{◌≡◌, ◌∙◌, sym, ap, subst, false, List, [], ◌++◌, ℕ}
use Rattle.std.specs.Vec.{with_items}
use Rattle.std.proofs.lemmas.List.{with_items_is}
use Rattle.circuit_run.specs.Kinds.{is_initial}
use Rattle.design_meaning.specs.Counters.{HasCounted}
use Rattle.design_meaning.specs.Cycles.{IsStart}
use Rattle.cycle_phases.specs.Phases.{turns}
use Rattle.cycle_run.specs.Lines.{Line}
use Rattle.cycle_run.specs.Ends.{end_seen}
use Rattle.simulator.specs.Machines.{IsSound, Machine, between}
use Rattle.simulator.proofs.Parts.{IsClosed, start_runs, start_sound, started}
use Rattle.simulator.proofs.machine.Machine.start.Given as given
use Rattle.simulator.proofs.machine.Machine.start.Goals as goal

-- the machine before
abbrev old : (g : given.Over) → goal.After-end-1 g → Machine
old g c = record {
  design = c.self.inside.design.now;
  order = c.self.inside.order.now;
  wakes = c.self.inside.wakes;
  others = c.self.inside.others;
  firsts = c.self.inside.firsts.items;
  state = c.self.inside.state;
  settled = c.self.inside.settled;
  kept = c.self.inside.kept.items;
  changes = c.self.inside.changes;
  effects = c.self.inside.effects;
  counts = c.self.inside.counts.items;
  line = c.self.inside.line;
  cycles = c.self.inside.cycles;
  end = c.self.inside.end;
  started = c.self.inside.started;
}

closed : (g : given.Over) (c : goal.After-end-1 g)
    → IsClosed is_initial (old g c) c.self.inside.state c.self.inside.counts.items [] c.close_phase-end.new.now
    c.close_phase-end.new.effects c.close_phase-end.new.counts c.close_phase-end.new.line c.close_phase-end.result
closed g c =
    let o = turns is_initial c.self.inside.design.now.design c.self.inside.state in
    record {
      leaves = c.close_phase-end.ensures.now;
      prints = c.close_phase-end.ensures.text ∙ ap (λ (l : Line). record { bytes = l.bytes ++ o.text; room = l.room }) c.clear.ensures;
      counted = subst (λ (l : List ℕ). HasCounted l o.notes c.close_phase-end.new.counts) c.as_mut_slice.ensures.value c.close_phase-end.ensures.counts;
      ends = c.close_phase-end.ensures.end;
      of_design = c.close_phase-end.ensures.of_design;
      room = c.close_phase-end.ensures.room;
      raised = c.close_phase-end.ensures.raised;
    }

sound : (g : given.Over) (c : goal.After-end-1 g) → IsSound (old g c)
sound g c = subst IsSound (sym c.self.view_is) c.requires.sound

first : (g : given.Over) (c : goal.After-end-1 g) → c.self.inside.started ≡ false
first g c = ap (λ (m : Machine). m.started) c.self.view_is ∙ c.requires.first

counts_are : (g : given.Over) (c : goal.After-end-1 g)
    → (with_items c.self.inside.counts c.close_phase-end.new.counts).items ≡ c.close_phase-end.new.counts
counts_are g c =
    with_items_is c.self.inside.counts c.close_phase-end.new.counts ((closed g c).counted.as_many ∙ sym c.self.inside.counts.ok.0)

pub returns-clause-run : goal.returns-clause-run
returns-clause-run g c =
    let e = c.close_phase-end.new in
    let end = c.close_phase-end.result in
    rw (← c.self.view_is)
    (subst (λ (l : List ℕ). IsStart (old g c).design (between (started (old g c) e.now e.effects l e.line end)) e.line.bytes (end_seen end))
    (sym (counts_are g c))
    (start_runs (old g c) e.now e.effects e.counts e.line end (sound g c) (first g c) (closed g c)))

pub returns-clause-sound : goal.returns-clause-sound
returns-clause-sound g c =
    let e = c.close_phase-end.new in
    let end = c.close_phase-end.result in
    subst (λ (l : List ℕ). IsSound (started (old g c) e.now e.effects l e.line end)) (sym (counts_are g c))
    (start_sound (old g c) e.now e.effects e.counts e.line end (sound g c) (first g c) (closed g c))
