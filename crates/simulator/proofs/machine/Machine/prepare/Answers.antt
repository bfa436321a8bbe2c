use Rattle.std.proofs.Common.{◌∙◌, sym, ap, subst, refl, true≢false, ℕ, List, length, arith}
use Rattle.std.specs.Prelude.{slice_index}
use Rattle.cov_types.specs.declared.var.Var.{Var}
use Rattle.circuit_run.specs.States.{no_var}
use Rattle.design_meaning.specs.States.{IsStateOf}
use Rattle.design_state.proofs.LaidStarts.{start_is_state}
use Rattle.flat_design.specs.Effects.{Effects}
use Rattle.cycle_wakes.specs.Wakes.{AreWakesOf}
use Rattle.cycle_run.specs.Lines.{Line}
use Rattle.cycle_run.proofs.RunLaws.{start_wires}
use Rattle.simulator.proofs.Parts.{zeros}
use Rattle.simulator.proofs.Sound.{raises_few}
use Rattle.simulator.proofs.machine.Machine.prepare.Goals as goal

pub raised_rooms-requires-clause-of_design : goal.raised_rooms-requires-clause-of_design
raised_rooms-requires-clause-of_design c =
    let d = c.args.design.now.design in
    subst (IsStateOf d) (sym c.in_ok-settled.ensures) (start_is_state d c.requires.valid.variables)

pub returns-clause-sound : goal.returns-clause-sound
returns-clause-sound c =
    let x = c.args.design.now in
    let d = x.design in
    let counts = c.in_ok-counts.ensures.items_if_clones_equal (λ y h. h) in
    record {
      can_run = c.requires;
      state = c.in_ok-state.ensures.is_state;
      settled = subst (IsStateOf d) (sym c.in_ok-settled.ensures) (start_is_state d c.requires.valid.variables);
      undriven = start_wires d c.in_ok-state.state (λ v lt. c.requires.valid.variables v no_var lt) c.in_ok-state.ensures;
      follows = λ e. absurd (true≢false e);
      rooms = c.in_ok-kept.ensures;
      wakes = subst (λ (order : List ℕ). AreWakesOf d order c.in_ok-wakes.wakes) c.processes-places.ensures c.in_ok-wakes.ensures;
      others = c.in_ok-others.ensures;
      firsts = c.in_ok-firsts.ensures;
      changes = record {
        places = omega (arith, c.in_ok-changes.ensures.places, ap (λ (l : List ℕ). length l) c.processes-places.ensures);
        vars = omega (arith, c.in_ok-changes.ensures.vars, ap (λ (l : List Var). length l) c.as_slice-vars.ensures);
      };
      room = ap (λ (e : Effects). e.room) c.in_ok-effects.ensures;
      columns = omega (
        arith,
        ap (λ (l : Line). l.room) c.in_ok-line.ensures,
        c.in_ok-room.ensures,
        c.byte_room.ensures,
        ap (λ (e : Effects). e.room.bytes) c.in_ok-effects.ensures,
        ap (λ (l : List ℕ). length l) c.as_slice.ensures,
      );
      counters = sym c.in_ok-counts.counts.ok.0 ∙ c.in_ok-counts.ensures.len;
      raises = raises_few x c.requires.valid;
      few = λ k. omega (arith, ap (λ (l : List ℕ). slice_index l k) counts, zeros x.counters k);
      fresh = λ _. record { start = c.in_ok-state.ensures; counts = counts; cycles = refl };
    }
