-- A run of a circuit, with other notes, is a run of the circuit with these notes: the one induction over the list of cycles.
use Rattle.std.specs.Prelude.{◌≡◌, ◌≢◌, refl, ℕ, Bool, List, [], ◌∷◌, ◌++◌, map, flat_map, All}
use Rattle.std.specs.List.{list_any}
use Rattle.std.proofs.Common.{sym, ◌∙◌, ap, ap₂, subst}
use Rattle.std.proofs.lemmas.Grind.{flat_map-append}
use Rattle.circuit_run.specs.States.{State, Bit, bit}
use Rattle.circuit_run.specs.Writes.{all_written}
use Rattle.circuit_run.specs.Outcomes.{in_turn}
use Rattle.circuit_run.specs.Kinds.{settles, runs_at_edge, is_comb, is_initial}
use Rattle.circuit_run.specs.Circuits.{Circuit, Process, of_kind}
use Rattle.circuit_run.specs.Settled.{AgreesWith, IsSettled, IsRegisterBit, IsUndrivenBit}
use Rattle.circuit_run.specs.Edges.{edge_runs, edge_updates, edge_text, edge_notes, edge_finished, edge_stopped, IsBlockedFrom, IsEdge}
use Rattle.circuit_run.specs.Runs.{IsStart, opening, Cycle, cycle_on, IsCycle, AreCycles, no_rows, last, more, Run, IsRun}
use Rattle.circuit_law.specs.Renoted.{renoted, renoted_process, renoted_circuit, renoted_cycle, renoted_run, RunsRenoted}
use Rattle.circuit_law.proofs.RenotedLemmas.{of_kind_renoted, turns_renoted, runs_renoted, updates_renoted, texts_renoted, notes_renoted, any_renoted}
use Rattle.circuit_law.proofs.Driven.{driven_same, left_same}

module _ {N M : Type 0} (t : N → List M) (c : Circuit N) where
  abbrev d : Circuit M
  d = renoted_circuit t c

  -- ---- one cycle

  register_back : (b : Bit) → IsRegisterBit d b → IsRegisterBit c b
  register_back b r = record { here = r.here; of_reg = r.of_reg; kept = sym (driven_same t is_comb c b) ∙ r.kept }

  undriven_back : (b : Bit) → IsUndrivenBit d b → IsUndrivenBit c b
  undriven_back b r = record { here = r.here; of_wire = r.of_wire; undriven = sym (driven_same t settles c b) ∙ r.undriven }

  agrees_there : (registers : State) (inputs : List ℕ) (s : State) → AgreesWith c registers inputs s → AgreesWith d registers inputs s
  agrees_there registers inputs s i = record {
    is_state = i.is_state;
    registers = λ b r. i.registers b (register_back b r);
    inputs = i.inputs;
    undriven = λ b r. i.undriven b (undriven_back b r);
  }

  settled_there : (registers : State) (inputs : List ℕ) (s : State) → IsSettled c registers inputs s → IsSettled d registers inputs s
  settled_there registers inputs s i = record {
    agrees = agrees_there registers inputs s i.agrees;
    still = subst (All (λ after. after ≡ s)) (sym (left_same t settles c s)) i.still;
  }

  edge_runs_there : (s : State) → edge_runs d s ≡ map (renoted t) (edge_runs c s)
  edge_runs_there s = ap (map (λ p. p.run s)) (of_kind_renoted t runs_at_edge c) ∙ runs_renoted t (of_kind runs_at_edge c) s

  pub updates_there : (s : State) → edge_updates d s ≡ edge_updates c s
  updates_there s = ap (flat_map (λ run. run.updates)) (edge_runs_there s) ∙ updates_renoted t (edge_runs c s)

  texts_there : (s : State) → edge_text d s ≡ edge_text c s
  texts_there s = ap (flat_map (λ run. run.text)) (edge_runs_there s) ∙ texts_renoted t (edge_runs c s)

  notes_there : (s : State) → edge_notes d s ≡ flat_map t (edge_notes c s)
  notes_there s = ap (flat_map (λ run. run.notes)) (edge_runs_there s) ∙ notes_renoted t (edge_runs c s)

  finished_there : (s : State) → edge_finished d s ≡ edge_finished c s
  finished_there s = ap (list_any (λ run. run.finished)) (edge_runs_there s)
      ∙ any_renoted t (λ run. run.finished) (λ run. run.finished) (λ o. refl) (edge_runs c s)

  stopped_there : (s : State) → edge_stopped d s ≡ edge_stopped c s
  stopped_there s = ap (list_any (λ run. run.stopped)) (edge_runs_there s)
      ∙ any_renoted t (λ run. run.stopped) (λ run. run.stopped) (λ o. refl) (edge_runs c s)

  blocked_there : (s blocked : State) → IsBlockedFrom c s blocked → IsBlockedFrom d s blocked
  blocked_there s blocked i = record {
    is_state = i.is_state;
    changed = λ b. subst (All (λ after. bit after b ≢ bit s b → bit blocked b ≡ bit after b)) (sym (left_same t runs_at_edge c s)) (i.changed b);
    kept = λ b all. i.kept b (subst (All (λ after. bit after b ≡ bit s b)) (left_same t runs_at_edge c s) all);
  }

  edge_there : (s after : State) → IsEdge c s after → IsEdge d s after
  edge_there s after i = record {
    blocked = i.blocked;
    last_values = blocked_there s i.blocked i.last_values;
    updated = i.updated ∙ ap (all_written i.blocked) (sym (updates_there s));
  }

  comb_notes : (s : State) (ps : List (Process N))
      → flat_map (λ p. (p.run s).notes) (map (renoted_process t) ps) ≡ flat_map t (flat_map (λ p. (p.run s).notes) ps)
  comb_notes s [] = refl
  comb_notes s (p ∷ ps) = ap (λ ns. flat_map t (p.run s).notes ++ ns) (comb_notes s ps)
      ∙ sym (flat_map-append t (p.run s).notes (flat_map (λ q. (q.run s).notes) ps))

  cycle_notes : (s : State) → (cycle_on d s).notes ≡ flat_map t (cycle_on c s).notes
  cycle_notes s = ap₂ (λ a b. a ++ b)
      (ap (flat_map (λ p. (p.run s).notes)) (of_kind_renoted t is_comb c) ∙ comb_notes s (of_kind is_comb c))
      (notes_there s)
      ∙ sym (flat_map-append t (flat_map (λ p. (p.run s).notes) (of_kind is_comb c)) (edge_notes c s))

  abbrev a_cycle : State → List M → List ℕ → Bool → Bool → Cycle M
  a_cycle s notes text finished stopped = record { settled = s; notes = notes; text = text; finished = finished; stopped = stopped }

  pub cycle_there : (s : State) → cycle_on d s ≡ renoted_cycle t (cycle_on c s)
  cycle_there s =
      ap₂ (λ notes text. a_cycle s notes text (edge_finished d s) (edge_stopped d s)) (cycle_notes s) (texts_there s)
      ∙ ap₂ (λ finished stopped. a_cycle s (flat_map t (cycle_on c s).notes) (edge_text c s) finished stopped) (finished_there s) (stopped_there s)

  pub is_cycle_there : (registers : State) (inputs : List ℕ) (after : State) (k : Cycle N)
      → IsCycle c registers inputs after k → IsCycle d registers inputs after (renoted_cycle t k)
  is_cycle_there registers inputs after k i = record {
    settled = settled_there registers inputs k.settled i.settled;
    edge = edge_there k.settled after i.edge;
    on = ap (renoted_cycle t) i.on ∙ sym (cycle_there k.settled);
  }

  -- ---- cycles and runs

  pub cycles_there : {registers : State} {rows : List (List ℕ)} {ks : List (Cycle N)}
      → AreCycles c registers rows ks → AreCycles d registers rows (map (renoted_cycle t) ks)
  cycles_there no_rows = no_rows
  cycles_there (last {registers} {after} {inputs} {rows} {k} i stops) = last (is_cycle_there registers inputs after k i) stops
  cycles_there (more {registers} {after} {inputs} {rows} {k} {ks} i goes rest) =
      more (is_cycle_there registers inputs after k i) goes (cycles_there rest)

  start_there : (s : State) → IsStart c s → IsStart d s
  start_there s i = record {
    is_state = i.is_state;
    driven = λ b h e. i.driven b h (sym (driven_same t settles c b) ∙ e);
    given = λ b h e. i.given b h (sym (driven_same t settles c b) ∙ e);
  }

  pub opening_there : (s : State) → opening d s ≡ renoted t (opening c s)
  opening_there s = ap (λ ps. in_turn (map (λ p. p.run) ps) s) (of_kind_renoted t is_initial c) ∙ turns_renoted t (of_kind is_initial c) s

  pub run_there : (rows : List (List ℕ)) (r : Run N) → IsRun c rows r → IsRun d rows (renoted_run t r)
  run_there rows r i = record {
    start = i.start;
    is_start = start_there i.start i.is_start;
    opened = ap (renoted t) i.opened ∙ sym (opening_there i.start);
    cycles = cycles_there i.cycles;
  }

-- the law holds
pub runs_renoted_hold : {N M : Type 0} (t : N → List M) → RunsRenoted t
runs_renoted_hold t c rows r i = run_there t c rows r i
