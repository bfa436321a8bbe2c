-- Each run of a circuit with other notes comes from a run of the circuit.
use Rattle.std.specs.Prelude.{◌≡◌, ◌≢◌, refl, ◌||◌, ℕ, List, [], ◌∷◌, map, All}
use Rattle.std.proofs.Common.{sym, ◌∙◌, ap, ap₂, subst}
use Rattle.circuit_run.specs.States.{State, Bit, bit}
use Rattle.circuit_run.specs.Writes.{all_written}
use Rattle.circuit_run.specs.Outcomes.{Outcome}
use Rattle.circuit_run.specs.Kinds.{settles, runs_at_edge, is_comb}
use Rattle.circuit_run.specs.Circuits.{Circuit}
use Rattle.circuit_run.specs.Settled.{AgreesWith, IsSettled, IsRegisterBit, IsUndrivenBit}
use Rattle.circuit_run.specs.Edges.{IsBlockedFrom, IsEdge}
use Rattle.circuit_run.specs.Runs.{IsStart, opening, Cycle, cycle_on, IsCycle, AreCycles, no_rows, last, more, rows_after, Run, IsRun}
use Rattle.circuit_law.specs.Renoted.{renoted, renoted_circuit, renoted_cycle, renoted_run, RunsComeBack}
use Rattle.circuit_law.proofs.Driven.{driven_same, left_same}
use Rattle.circuit_law.proofs.RenotedRuns.{updates_there, cycle_there, opening_there}

module _ {N M : Type 0} (t : N → List M) (c : Circuit N) where
  abbrev d : Circuit M
  d = renoted_circuit t c

  -- ---- one cycle

  register_there : (b : Bit) → IsRegisterBit c b → IsRegisterBit d b
  register_there b r = record { here = r.here; of_reg = r.of_reg; kept = driven_same t is_comb c b ∙ r.kept }

  undriven_there : (b : Bit) → IsUndrivenBit c b → IsUndrivenBit d b
  undriven_there b r = record { here = r.here; of_wire = r.of_wire; undriven = driven_same t settles c b ∙ r.undriven }

  agrees_back : (registers : State) (inputs : List ℕ) (s : State) → AgreesWith d registers inputs s → AgreesWith c registers inputs s
  agrees_back registers inputs s i = record {
    is_state = i.is_state;
    registers = λ b r. i.registers b (register_there b r);
    inputs = i.inputs;
    undriven = λ b r. i.undriven b (undriven_there b r);
  }

  settled_back : (registers : State) (inputs : List ℕ) (s : State) → IsSettled d registers inputs s → IsSettled c registers inputs s
  settled_back registers inputs s i = record {
    agrees = agrees_back registers inputs s i.agrees;
    still = subst (All (λ after. after ≡ s)) (left_same t settles c s) i.still;
  }

  blocked_back : (s blocked : State) → IsBlockedFrom d s blocked → IsBlockedFrom c s blocked
  blocked_back s blocked i = record {
    is_state = i.is_state;
    changed = λ b. subst (All (λ after. bit after b ≢ bit s b → bit blocked b ≡ bit after b)) (left_same t runs_at_edge c s) (i.changed b);
    kept = λ b all. i.kept b (subst (All (λ after. bit after b ≡ bit s b)) (sym (left_same t runs_at_edge c s)) all);
  }

  edge_back : (s after : State) → IsEdge d s after → IsEdge c s after
  edge_back s after i = record {
    blocked = i.blocked;
    last_values = blocked_back s i.blocked i.last_values;
    updated = i.updated ∙ ap (all_written i.blocked) (updates_there t c s);
  }

  cycle_back : (registers : State) (inputs : List ℕ) (after : State) (k : Cycle M)
      → IsCycle d registers inputs after k → IsCycle c registers inputs after (cycle_on c k.settled)
  cycle_back registers inputs after k i = record {
    settled = settled_back registers inputs k.settled i.settled;
    edge = edge_back k.settled after i.edge;
    on = refl;
  }

  comes_to : (registers : State) (inputs : List ℕ) (after : State) (k : Cycle M)
      → IsCycle d registers inputs after k → renoted_cycle t (cycle_on c k.settled) ≡ k
  comes_to registers inputs after k i = sym (cycle_there t c k.settled) ∙ sym i.on

  -- ---- cycles and runs

  record CyclesBack (registers : State) (rows : List (List ℕ)) (ks : List (Cycle M)) : Type 0 where
    before : List (Cycle N)
    are : AreCycles c registers rows before
    same : map (renoted_cycle t) before ≡ ks

  cycles_back : {registers : State} {rows : List (List ℕ)} {ks : List (Cycle M)} → AreCycles d registers rows ks → CyclesBack registers rows ks
  cycles_back no_rows = record { before = []; are = no_rows; same = refl }
  cycles_back (last {registers} {after} {inputs} {rows} {k} i stops) = record {
    before = cycle_on c k.settled ∷ [];
    are = last (cycle_back registers inputs after k i) (ap (λ (x : Cycle M). x.finished || x.stopped) (comes_to registers inputs after k i) ∙ stops);
    same = ap (λ (x : Cycle M). x ∷ []) (comes_to registers inputs after k i);
  }
  cycles_back (more {registers} {after} {inputs} {rows} {k} {ks} i goes rest) =
      let others : CyclesBack after rows ks = cycles_back rest in
      record {
        before = cycle_on c k.settled ∷ others.before;
        are = more (cycle_back registers inputs after k i)
            (ap (λ (x : Cycle M). x.finished || x.stopped) (comes_to registers inputs after k i) ∙ goes) others.are;
        same = ap₂ (λ (x : Cycle M) (xs : List (Cycle M)). x ∷ xs) (comes_to registers inputs after k i) others.same;
      }

  start_back : (s : State) → IsStart d s → IsStart c s
  start_back s i = record {
    is_state = i.is_state;
    driven = λ b h e. i.driven b h (driven_same t settles c b ∙ e);
    given = λ b h e. i.given b h (driven_same t settles c b ∙ e);
  }

  abbrev run_with : Outcome M → List (Cycle M) → Run M
  run_with opened cycles = record { opened = opened; cycles = cycles }

  pub run_back : (rows : List (List ℕ)) (q : Run M) → IsRun d rows q → (r : Run N) × IsRun c rows r × (renoted_run t r ≡ q)
  run_back rows q i =
      let opens : q.opened ≡ renoted t (opening c i.start) = i.opened ∙ opening_there t c i.start in
      let back : CyclesBack (all_written q.opened.state q.opened.updates) (rows_after q.opened rows) q.cycles = cycles_back i.cycles in (
        record { opened = opening c i.start; cycles = back.before },
        record {
          start = i.start;
          is_start = start_back i.start i.is_start;
          opened = refl;
          cycles = subst (λ (o : Outcome M). AreCycles c (all_written o.state o.updates) (rows_after o rows) back.before) opens back.are;
        },
        ap₂ run_with (sym opens) back.same,
      )

-- the law holds
pub runs_come_back : {N M : Type 0} (t : N → List M) → RunsComeBack t
runs_come_back t c rows q i = run_back t c rows q i
