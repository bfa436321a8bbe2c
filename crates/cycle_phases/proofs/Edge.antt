-- At the edge the processes do one after the other what they do each from the settled state.
use Rattle.std.proofs.Common.{◌≡◌, ◌∙◌, sym, ap, ap₂, subst, refl, ℕ, zero, suc, ◌+◌, ◌<◌, ◌≤◌, Bool, true, false, ◌||◌, List, [], ◌∷◌, ◌++◌, length, map, inl}
use Rattle.std.proofs.Common.{inr, arith, true≢false}
use Rattle.std.specs.Prelude.{IsTrue, flat_map}
use Rattle.std.specs.List.{list_any}
use Rattle.std.proofs.lemmas.Bool.{cases_Bool, cases_lt}
use Rattle.std.proofs.lemmas.Grind.{flat_map-append}
use Rattle.std.proofs.lemmas.List.{map-append}
use Rattle.design_tree.specs.declared.design.Process.{Process}
use Rattle.design_tree.specs.declared.design.Design.{Design}
use Rattle.circuit_run.specs.States.{State}
use Rattle.circuit_run.specs.Writes.{all_written}
use Rattle.circuit_run.specs.Outcomes.{Outcome}
use Rattle.circuit_run.specs.Kinds.{runs_at_edge}
use Rattle.circuit_run.specs.Edges.{edge_runs}
use Rattle.design_meaning.specs.States.{IsStateOf}
use Rattle.design_meaning.specs.Steps.{run_of}
use Rattle.design_meaning.specs.Processes.{process_of, kind_of, processes_that}
use Rattle.design_meaning.specs.Circuit.{as_process, circuit_of}
use Rattle.design_meaning.specs.RunLaws.{after, SameEffects}
use Rattle.design_meaning.specs.Valid.{IsValidDesign}
use Rattle.design_meaning.specs.FlowFaults.{Flows}
use Rattle.design_meaning.proofs.ListLaws.{any_append, or_false}
use Rattle.design_meaning.proofs.ByNumber.{chosen}
use Rattle.design_meaning.proofs.RunTheorems.{runs_keep_states}
use Rattle.cycle_laws.specs.Chains.{AreBlocked}
use Rattle.cycle_laws.proofs.Edge.{one_more}
use Rattle.cycle_laws.proofs.EdgeEnds.{chains_end}
use Rattle.cycle_phases.specs.Phases.{turns}
use Rattle.cycle_phases.specs.Laws.{EdgeInTurn, IsEdgeOutcome}
use Rattle.cycle_phases.proofs.Joined.{first_of, first_turns, here, not_here, turned, not_turned}
use Rattle.cycle_phases.proofs.Turning.{all_first, all_turns}

-- the runs of some processes, each from the state alone
abbrev runs : State → List Process → List (Outcome ℕ)
runs s ps = map (λ p. run_of p s) ps

-- what the first n leave, run one after the other, is what they leave each from the state alone
record Chained (d : Design) (s : State) (n : ℕ) (o : Outcome ℕ) : Type 0 where
  of : IsStateOf d o.state
  blocked : AreBlocked d n s o.state
  updates : o.updates ≡ flat_map (λ run. run.updates) (runs s (first_of runs_at_edge d n))
  text : o.text ≡ flat_map (λ run. run.text) (runs s (first_of runs_at_edge d n))
  raised : o.notes ≡ flat_map (λ run. run.notes) (runs s (first_of runs_at_edge d n))
  finished : o.finished ≡ list_any (λ run. run.finished) (runs s (first_of runs_at_edge d n))
  stopped : o.stopped ≡ list_any (λ run. run.stopped) (runs s (first_of runs_at_edge d n))

no_more : {X : Type 0} (xs : List X) → xs ++ [] ≡ xs
no_more [] = refl
no_more (x ∷ xs) = ap (λ l. x ∷ l) (no_more xs)

module _ (d : Design) (valid : IsValidDesign d) (flows : Flows d) (s : State) (hs : IsStateOf d s) where
  -- one more at the end of a list that is gathered of runs
  gathered : {X : Type 0} (part : Outcome ℕ → List X) (n : ℕ) (front last : List X) → n < length d.processes → runs_at_edge (kind_of d n) ≡ true
      → front ≡ flat_map part (runs s (first_of runs_at_edge d n)) → last ≡ part (run_of (process_of d n) s)
      → front ++ last ≡ flat_map part (runs s (first_of runs_at_edge d (n + 1)))
  gathered part n front last lt k hf hl =
      ap₂ (λ a b. a ++ b) hf (hl ∙ sym (no_more (part (run_of (process_of d n) s))))
      ∙ sym (flat_map-append part (runs s (first_of runs_at_edge d n)) (run_of (process_of d n) s ∷ []))
      ∙ ap (flat_map part) (sym (map-append (λ p. run_of p s) (first_of runs_at_edge d n) (process_of d n ∷ []))
      ∙ sym (ap (runs s) (here runs_at_edge d n lt k)))

  flagged : (flag : Outcome ℕ → Bool) (n : ℕ) (front last : Bool) → n < length d.processes → runs_at_edge (kind_of d n) ≡ true
      → front ≡ list_any flag (runs s (first_of runs_at_edge d n)) → last ≡ flag (run_of (process_of d n) s)
      → (front || last) ≡ list_any flag (runs s (first_of runs_at_edge d (n + 1)))
  flagged flag n front last lt k hf hl =
      ap₂ (λ a b. a || b) hf (hl ∙ sym (or_false (flag (run_of (process_of d n) s))))
      ∙ sym (any_append flag (runs s (first_of runs_at_edge d n)) (run_of (process_of d n) s ∷ []))
      ∙ ap (list_any flag) (sym (map-append (λ p. run_of p s) (first_of runs_at_edge d n) (process_of d n ∷ []))
      ∙ sym (ap (runs s) (here runs_at_edge d n lt k)))

  one_here : (n : ℕ) → n < length d.processes → runs_at_edge (kind_of d n) ≡ true → Chained d s n (first_turns runs_at_edge d n s)
      → Chained d s (n + 1) (first_turns runs_at_edge d (n + 1) s)
  one_here n lt k c = subst (Chained d s (n + 1)) (sym (turned runs_at_edge d n s lt k)) (record {
    of = runs_keep_states d n (first_turns runs_at_edge d n s).state valid c.of;
    blocked = more.0;
    updates = gathered (λ run. run.updates) n _ _ lt k c.updates same.0;
    text = gathered (λ run. run.text) n _ _ lt k c.text same.1;
    raised = gathered (λ run. run.notes) n _ _ lt k c.raised same.2;
    finished = flagged (λ run. run.finished) n _ _ lt k c.finished same.3;
    stopped = flagged (λ run. run.stopped) n _ _ lt k c.stopped same.4;
  })
    where
      more : AreBlocked d (n + 1) s (after d n (first_turns runs_at_edge d n s).state)
          × SameEffects (run_of (process_of d n) (first_turns runs_at_edge d n s).state) (run_of (process_of d n) s)
      more = one_more d n s (first_turns runs_at_edge d n s).state valid flows hs c.of lt k c.blocked

      same : SameEffects (run_of (process_of d n) (first_turns runs_at_edge d n s).state) (run_of (process_of d n) s)
      same = more.1

  -- a process of another kind changes nothing of it
  passed : (n : ℕ) (t : State) → runs_at_edge (kind_of d n) ≡ false → AreBlocked d n s t → AreBlocked d (n + 1) s t
  passed n t k h = record {
    set = λ b hb p lt at sets. h.set b hb p (less p lt at) at sets;
    kept = λ b hb none. h.kept b hb (λ p lt at. none p (omega (arith, lt)) at);
    untouched = λ b hb none. h.untouched b hb (λ p lt at. none p (omega (arith, lt)) at);
  }
    where
      less : (p : ℕ) → p < n + 1 → IsTrue (runs_at_edge (kind_of d p)) → p < n
      less p lt at = elim (cases_lt p n) [
        | inl l ↦ l
        | inr m ↦ (let e : n ≡ p = omega (arith, lt, m) in absurd (true≢false (sym at ∙ sym (ap (λ q. runs_at_edge (kind_of d q)) e) ∙ k)))
      ]

  none_here : (n : ℕ) → n < length d.processes → runs_at_edge (kind_of d n) ≡ false → Chained d s n (first_turns runs_at_edge d n s)
      → Chained d s (n + 1) (first_turns runs_at_edge d (n + 1) s)
  none_here n lt k c = subst (Chained d s (n + 1)) (sym (not_turned runs_at_edge d n s lt k)) (record {
    of = c.of;
    blocked = passed n (first_turns runs_at_edge d n s).state k c.blocked;
    updates = c.updates ∙ ap (λ ps. flat_map (λ run. run.updates) (runs s ps)) (sym (not_here runs_at_edge d n lt k));
    text = c.text ∙ ap (λ ps. flat_map (λ run. run.text) (runs s ps)) (sym (not_here runs_at_edge d n lt k));
    raised = c.raised ∙ ap (λ ps. flat_map (λ run. run.notes) (runs s ps)) (sym (not_here runs_at_edge d n lt k));
    finished = c.finished ∙ ap (λ ps. list_any (λ run. run.finished) (runs s ps)) (sym (not_here runs_at_edge d n lt k));
    stopped = c.stopped ∙ ap (λ ps. list_any (λ run. run.stopped) (runs s ps)) (sym (not_here runs_at_edge d n lt k));
  })

  chained : (n : ℕ) → n ≤ length d.processes → Chained d s n (first_turns runs_at_edge d n s)
  chained zero le = record {
    of = hs;
    blocked = record {
      set = λ b hb p lt. absurd (omega (arith, lt));
      kept = λ b hb none. refl;
      untouched = λ b hb none. refl;
    };
    updates = refl;
    text = refl;
    raised = refl;
    finished = refl;
    stopped = refl;
  }
  chained (suc n) le = subst (λ m. Chained d s m (first_turns runs_at_edge d m s)) (omega arith) (elim (cases_Bool (runs_at_edge (kind_of d n))) [
    | inl k ↦ one_here n (omega (arith, le)) k (chained n (omega (arith, le)))
    | inr k ↦ none_here n (omega (arith, le)) k (chained n (omega (arith, le)))
  ])

  runs_are : runs s (first_of runs_at_edge d (length d.processes)) ≡ edge_runs (circuit_of d) s
  runs_are = ap (runs s) (all_first runs_at_edge d (length d.processes) (omega arith)) ∙ sym (ap (map (λ p. p.run s)) (chosen runs_at_edge d.processes)
      ∙ each (processes_that runs_at_edge d))
    where
      each : (ps : List Process) → map (λ p. p.run s) (map as_process ps) ≡ map (λ p. run_of p s) ps
      each [] = refl
      each (p ∷ ps) = ap (λ l. run_of p s ∷ l) (each ps)

  is_edge : Chained d s (length d.processes) (turns runs_at_edge d s) → IsEdgeOutcome d s (turns runs_at_edge d s)
  is_edge c = record {
    edge = record {
      blocked = (turns runs_at_edge d s).state;
      last_values = chains_end d s (turns runs_at_edge d s).state valid hs c.of c.blocked;
      updated = ap (all_written (turns runs_at_edge d s).state) (c.updates ∙ ap (flat_map (λ run. run.updates)) runs_are);
    };
    text = c.text ∙ ap (flat_map (λ run. run.text)) runs_are;
    raised = c.raised ∙ ap (flat_map (λ run. run.notes)) runs_are;
    finished = c.finished ∙ ap (list_any (λ run. run.finished)) runs_are;
    stopped = c.stopped ∙ ap (list_any (λ run. run.stopped)) runs_are;
  }

pub edge_in_turn : EdgeInTurn
edge_in_turn d s valid flows hs = is_edge d valid flows s hs
    (subst (Chained d s (length d.processes)) (all_turns runs_at_edge d s (length d.processes) (omega arith))
    (chained d valid flows s hs (length d.processes) (omega arith)))
