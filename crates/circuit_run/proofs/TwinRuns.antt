-- Twin circuits have the same runs, but for what they note.
use Rattle.std.proofs.Common.{◌≡◌, ◌≢◌, ◌∙◌, sym, ap, ap₂, refl, subst, ℕ, ◌<◌, Bool, ◌||◌, if◌then◌else◌, List, [], ◌∷◌, ◌++◌, map, flat_map, All, length}
use Rattle.std.proofs.Common.{get_or}
use Rattle.std.proofs.lemmas.Grind.{flat_map-append}
use Rattle.circuit_run.specs.Agreement.{Agrees}
use Rattle.std.specs.Int.{bit_at}
use Rattle.std.proofs.lemmas.List.{ext_get_or, length-map}
use Rattle.std.proofs.Math.ListN.{get_or-map}
use Rattle.cov_types.specs.declared.kind.ProcessKind.{ProcessKind}
use Rattle.cov_types.specs.declared.var.Var.{Var}
use Rattle.circuit_run.specs.States.{Bit, State, bit, no_words, no_var, var_of, IsBitOf, IsStateOf}
use Rattle.circuit_run.specs.Writes.{all_written}
use Rattle.circuit_run.specs.Kinds.{settles, is_comb, runs_at_edge, is_initial}
use Rattle.circuit_run.specs.Circuits.{Circuit, is_driven, states_after, of_kind}
use Rattle.circuit_run.specs.Settled.{inputs_in, AgreesWith, IsSettled}
use Rattle.circuit_run.specs.Edges.{IsEdge, edge_notes}
use Rattle.circuit_run.specs.Runs.{IsStart, opening, Cycle, cycle_on, IsCycle, AreCycles, no_rows, last, more, Run, rows_after, output_line}
use Rattle.circuit_run.specs.Twins.{HasWidths, TwinCircuits, TwinsRun}
use Rattle.circuit_run.proofs.TwinProcesses.{twins_of_kind, twins_updates, twins_text, twins_finished, twins_stopped, twins_states, twins_notes}
use Rattle.circuit_run.proofs.TwinProcesses.{twins_process_notes, twins_in_turn, twins_driven}

-- A state of the variables has their widths.
pub widths_of_state : (vars : List Var) (s : State) → IsStateOf vars s → HasWidths vars s
widths_of_state vars s h = ext_get_or 1 _ _ (length-map s (λ x. x.width) ∙ h.as_many ∙ sym (length-map vars (λ v. v.width))) each
  where
    each : (i : ℕ) → i < length (map (λ x. x.width) s) → get_or (map (λ x. x.width) s) i 1 ≡ get_or (map (λ v. v.width) vars) i 1
    each i lt =
        get_or-map (λ x. x.width) s i no_words
        ∙ (h.each i (subst (λ n. i < n) (length-map s (λ x. x.width) ∙ h.as_many) lt)).as_wide
        ∙ sym (get_or-map (λ v. v.width) vars i no_var)

module _ {N M : Type 0} (marks : N → List M) (c : Circuit N) (d : Circuit M) (twins : TwinCircuits marks c d) where
  same_after : (sort : ProcessKind → Bool) (s : State) → HasWidths c.vars s → states_after sort d s ≡ states_after sort c s
  same_after sort s w = twins_states s w (twins_of_kind sort twins.processes)

  same_var : (v : ℕ) → var_of d.vars v ≡ var_of c.vars v
  same_var v = ap (λ vars. var_of vars v) twins.vars

  bit_back : (b : Bit) → IsBitOf d.vars b → IsBitOf c.vars b
  bit_back b h = subst (λ vars. IsBitOf vars b) twins.vars h

  same_driven : (sort : ProcessKind → Bool) (b : Bit) → IsBitOf d.vars b → is_driven sort d b ≡ is_driven sort c b
  same_driven sort b here = twins_driven b (bit_back b here) (twins_of_kind sort twins.processes)

  twin_agrees : (registers : State) (inputs : List ℕ) (s : State) → AgreesWith c registers inputs s → AgreesWith d registers inputs s
  twin_agrees registers inputs s h = record {
    is_state = subst (λ vars. IsStateOf vars s) (sym twins.vars) h.is_state;
    registers = λ b r. h.registers b (record {
      here = bit_back b r.here;
      of_reg = sym (ap (λ v. v.kind) (same_var b.var)) ∙ r.of_reg;
      kept = sym (same_driven is_comb b r.here) ∙ r.kept;
    });
    inputs = ap (λ is. inputs_in is s) twins.inputs ∙ h.inputs;
    undriven = λ b r. h.undriven b (record {
      here = bit_back b r.here;
      of_wire = sym (ap (λ v. v.kind) (same_var b.var)) ∙ r.of_wire;
      undriven = sym (same_driven settles b r.here) ∙ r.undriven;
    });
  }

  twin_settled : (registers : State) (inputs : List ℕ) (s : State) → IsSettled c registers inputs s → IsSettled d registers inputs s
  twin_settled registers inputs s h = record {
    agrees = twin_agrees registers inputs s h.agrees;
    still = subst (All (λ after. after ≡ s)) (sym (same_after settles s (widths_of_state c.vars s h.agrees.is_state))) h.still;
  }

  twin_edge : (s after : State) → HasWidths c.vars s → IsEdge c s after → IsEdge d s after
  twin_edge s after w h = record {
    blocked = h.blocked;
    last_values = record {
      is_state = subst (λ vars. IsStateOf vars h.blocked) (sym twins.vars) h.last_values.is_state;
      changed = λ b. subst (All (λ after. bit after b ≢ bit s b → bit h.blocked b ≡ bit after b)) (sym (same_after runs_at_edge s w)) (h.last_values.changed b);
      kept = λ b all. h.last_values.kept b (subst (All (λ after. bit after b ≡ bit s b)) (same_after runs_at_edge s w) all);
    };
    updated = h.updated ∙ ap (all_written h.blocked) (sym (twins_updates s w (twins_of_kind runs_at_edge twins.processes)));
  }

  twin_start : (s : State) → IsStart c s → IsStart d s
  twin_start s h = record {
    is_state = subst (λ vars. IsStateOf vars s) (sym twins.vars) h.is_state;
    driven = λ b there p. h.driven b (bit_back b there) (sym (same_driven settles b there) ∙ p);
    given = λ b there p. h.given b (bit_back b there) (sym (same_driven settles b there) ∙ p) ∙ ap (λ v. bit_at v.start b.place) (sym (same_var b.var));
  }

  -- ---- cycles

  abbrev twin_cycle : Cycle N → Cycle M
  twin_cycle k = cycle_on d k.settled

  -- what a cycle and its twin have in common
  record SameCycle (k : Cycle N) : Type 0 where
    text : (twin_cycle k).text ≡ k.text
    finished : (twin_cycle k).finished ≡ k.finished
    stopped : (twin_cycle k).stopped ≡ k.stopped
    notes : (twin_cycle k).notes ≡ flat_map marks k.notes

  same_cycle : {registers after : State} {inputs : List ℕ} {k : Cycle N} → IsCycle c registers inputs after k → SameCycle k
  same_cycle {k = k} h =
      let w = widths_of_state c.vars k.settled h.settled.agrees.is_state in
      let ts = twins_of_kind runs_at_edge twins.processes in
      record {
        text = twins_text k.settled w ts ∙ sym (ap (λ x. x.text) h.on);
        finished = twins_finished k.settled w ts ∙ sym (ap (λ x. x.finished) h.on);
        stopped = twins_stopped k.settled w ts ∙ sym (ap (λ x. x.stopped) h.on);
        notes =
            ap₂ ◌++◌ (twins_process_notes k.settled w (twins_of_kind is_comb twins.processes)) (twins_notes k.settled w ts)
            ∙ sym (flat_map-append marks (flat_map (λ p. (p.run k.settled).notes) (of_kind is_comb c)) (edge_notes c k.settled))
            ∙ sym (ap (λ x. flat_map marks x.notes) h.on);
      }

  is_twin_cycle : {registers after : State} {inputs : List ℕ} {k : Cycle N} → IsCycle c registers inputs after k
      → IsCycle d registers inputs after (twin_cycle k)
  is_twin_cycle {registers} {after} {inputs} {k} h = record {
    settled = twin_settled registers inputs k.settled h.settled;
    edge = twin_edge k.settled after (widths_of_state c.vars k.settled h.settled.agrees.is_state) h.edge;
    on = refl;
  }

  twin_cycles : {registers : State} {rows : List (List ℕ)} {ks : List (Cycle N)} → AreCycles c registers rows ks
      → AreCycles d registers rows (map twin_cycle ks)
  twin_cycles no_rows = no_rows
  twin_cycles (last h p) = last (is_twin_cycle h) (ap₂ ◌||◌ (same_cycle h).finished (same_cycle h).stopped ∙ p)
  twin_cycles (more h p hs) = more (is_twin_cycle h) (ap₂ ◌||◌ (same_cycle h).finished (same_cycle h).stopped ∙ p) (twin_cycles hs)

  -- what the cycles have in common
  record SameCycles (ks : List (Cycle N)) : Type 0 where
    settled : map (λ k. k.settled) (map twin_cycle ks) ≡ map (λ k. k.settled) ks
    text : map (λ k. k.text) (map twin_cycle ks) ≡ map (λ k. k.text) ks
    finished : map (λ k. k.finished) (map twin_cycle ks) ≡ map (λ k. k.finished) ks
    stopped : map (λ k. k.stopped) (map twin_cycle ks) ≡ map (λ k. k.stopped) ks
    notes : flat_map (λ k. k.notes) (map twin_cycle ks) ≡ flat_map marks (flat_map (λ k. k.notes) ks)
    lines : (outputs : List ℕ) → flat_map (λ k. output_line outputs k.settled ++ k.text) (map twin_cycle ks) ≡ flat_map (λ k. output_line outputs k.settled
        ++ k.text) ks

  one_more : (k : Cycle N) (ks : List (Cycle N)) → SameCycle k → SameCycles ks → SameCycles (k ∷ ks)
  one_more k ks a b = record {
    settled = ap (λ x. k.settled ∷ x) b.settled;
    text = ap₂ ◌∷◌ a.text b.text;
    finished = ap₂ ◌∷◌ a.finished b.finished;
    stopped = ap₂ ◌∷◌ a.stopped b.stopped;
    notes = ap₂ ◌++◌ a.notes b.notes ∙ sym (flat_map-append marks k.notes (flat_map (λ k. k.notes) ks));
    lines = λ outputs. ap₂ ◌++◌ (ap (λ x. output_line outputs k.settled ++ x) a.text) (b.lines outputs);
  }

  nothing_more : SameCycles []
  nothing_more = record { settled = refl; text = refl; finished = refl; stopped = refl; notes = refl; lines = λ outputs. refl }

  same_cycles : {registers : State} {rows : List (List ℕ)} {ks : List (Cycle N)} → AreCycles c registers rows ks → SameCycles ks
  same_cycles no_rows = nothing_more
  same_cycles (last {k = k} h p) = one_more k [] (same_cycle h) nothing_more
  same_cycles (more {k = k} {ks = ks} h p hs) = one_more k ks (same_cycle h) (same_cycles hs)

-- the law
pub twins_run : (N M : Type 0) → TwinsRun N M
twins_run N M marks c d twins rows r h =
    let begin = twins_in_turn h.start (widths_of_state c.vars h.start h.is_start.is_state) (twins_of_kind is_initial twins.processes) in
    let same = same_cycles marks c d twins h.cycles in
    let t : Run M = record { opened = opening d h.start; cycles = map (twin_cycle marks c d twins) r.cycles } in
    let opened : Agrees marks r.opened t.opened = subst (λ x. Agrees marks x t.opened) (sym h.opened) begin in
    let registers : all_written r.opened.state r.opened.updates
    ≡ all_written t.opened.state t.opened.updates = ap₂ all_written (sym opened.state) (sym opened.updates) in
    let then_rows : rows_after r.opened rows
    ≡ rows_after t.opened rows = ap (λ b. if b then [] else rows) (ap₂ ◌||◌ (sym opened.finished) (sym opened.stopped)) in (
      t,
      record {
        start = h.start;
        is_start = twin_start marks c d twins h.start h.is_start;
        opened = refl;
        cycles = subst (λ s. AreCycles d s (rows_after t.opened rows) t.cycles) registers
            (subst (λ rs. AreCycles d (all_written r.opened.state r.opened.updates) rs t.cycles) then_rows (twin_cycles marks c d twins h.cycles));
      },
      record {
        opened = opened;
        settled = same.settled;
        text = same.text;
        finished = same.finished;
        stopped = same.stopped;
        notes = ap₂ ◌++◌ opened.notes same.notes ∙ sym (flat_map-append marks r.opened.notes (flat_map (λ k. k.notes) r.cycles));
        printed = λ outputs. ap₂ ◌++◌ opened.text (same.lines outputs);
      },
    )
