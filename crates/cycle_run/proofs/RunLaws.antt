-- From the parts of a call to the start of a run and to a cycle of it.
use Rattle.std.proofs.Common.{◌≡◌, ◌≢◌, ◌∙◌, sym, ap, ap₂, subst, refl, ℕ, zero, suc, ◌+◌, ◌*◌, ◌<◌, ◌≤◌, ◌^◌, ◌==◌, Bool, true, false, List, [], ◌∷◌, ◌++◌}
use Rattle.std.proofs.Common.{length, map, filter, inl, inr, arith, cond}
use Rattle.std.specs.Prelude.{IsTrue, Option, Some, None, flat_map, replicate, slice_index}
use Rattle.std.specs.Int.{bit_at}
use Rattle.std.proofs.lemmas.Bool.{ne_eqb}
use Rattle.std.proofs.lemmas.Nat.Bits.{bit_at-zero}
use Rattle.cov_types.specs.declared.kind.VarKind.TheVariants as var_kind
use Rattle.design_tree.specs.declared.design.Process.{Process}
use Rattle.design_tree.specs.declared.design.Design.{Design}
use Rattle.design_tree.specs.declared.instrumented.Instrumented.{Instrumented}
use Rattle.design_tree.specs.declared.instrumented.ToggleEntry.{ToggleEntry}
use Rattle.circuit_run.specs.States.{State, Bit, bit}
use Rattle.circuit_run.specs.Writes.{all_written}
use Rattle.circuit_run.specs.Outcomes.{Outcome, in_turn}
use Rattle.circuit_run.specs.Kinds.{settles, is_initial, runs_at_edge}
use Rattle.circuit_run.specs.Lists.{how_many}
use Rattle.circuit_run.specs.Edges.{edge_notes, edge_text, IsEdge}
use Rattle.circuit_run.specs.Ends.{End, end_of}
use Rattle.circuit_run.specs.Runs.{IsStart as IsStartState, cycle_on, opening, output_line}
use Rattle.design_meaning.specs.States.{IsBitOf, IsStateOf, var_of}
use Rattle.design_meaning.specs.Steps.{run_of}
use Rattle.design_meaning.specs.Processes.{processes_that}
use Rattle.design_meaning.specs.Settled.{IsSettled, IsUndrivenBit}
use Rattle.design_meaning.specs.Circuit.{as_process, circuit_of}
use Rattle.design_meaning.specs.Counters.{HasCounted, is_toggled, toggled}
use Rattle.design_meaning.specs.Cycles.{Between, IsStart, IsCycle}
use Rattle.design_meaning.specs.ValidVariables.{IsVariable, HasStart}
use Rattle.design_meaning.specs.Valid.{IsValid, IsValidDesign}
use Rattle.design_meaning.specs.FlowFaults.{Flows}
use Rattle.design_meaning.proofs.ByNumber.{chosen}
use Rattle.design_meaning.proofs.MachineCounts.{how_many_both}
use Rattle.cycle_parts.proofs.CountLaws.{counted_both, counted_least}
use Rattle.cycle_phases.specs.Phases.{turns}
use Rattle.cycle_phases.specs.Laws.{IsEdgeOutcome}
use Rattle.cycle_phases.proofs.Edge.{edge_in_turn}
use Rattle.cycle_run.specs.Ends.{settled_before}
use Rattle.cycle_run.specs.Tally.{comb_raised}
use Rattle.std.proofs.lemmas.List.{length-append}

-- ---- the start

acts_are : (ps : List Process) → map (λ p. p.run) (map as_process ps) ≡ map run_of ps
acts_are [] = refl
acts_are (p ∷ ps) = ap (λ l. run_of p ∷ l) (acts_are ps)

pub opening_is : (d : Design) (s : State) → opening (circuit_of d) s ≡ turns is_initial d s
opening_is d s = ap (λ acts. in_turn acts s) (ap (map (λ p. p.run)) (chosen is_initial d.processes) ∙ acts_are (processes_that is_initial d))

pub starts : (x : Instrumented) (s after : State) (old counts text : List ℕ) (end : End) → IsStartState (circuit_of x.design) s → old ≡ replicate x.counters 0
    → after ≡ all_written (turns is_initial x.design s).state (turns is_initial x.design s).updates
    → HasCounted old (turns is_initial x.design s).notes counts → text ≡ (turns is_initial x.design s).text
    → end ≡ end_of (turns is_initial x.design s).finished (turns is_initial x.design s).stopped
    → IsStart x (record { registers = after; last_settled = None; counts = counts }) text end
starts x s after old counts text end is zeros left counted printed ends =
    let e = sym (opening_is x.design s) in
    record {
      start = s;
      is_start = is;
      registers = left ∙ ap (λ o. all_written o.state o.updates) e;
      unsettled = refl;
      counted = subst (λ r. HasCounted (replicate x.counters 0) r counts) (ap (λ o. o.notes) e)
          (subst (λ o. HasCounted o (turns is_initial x.design s).notes counts) zeros counted);
      printed = printed ∙ ap (λ o. o.text) e;
      ends = ends ∙ ap (λ o. end_of o.finished o.stopped) e;
    }

-- before the initial processes undriven wires are 0
pub start_wires : (d : Design) (s : State) → ((v : ℕ) → v < length d.vars → IsVariable (var_of d v)) → IsStartState (circuit_of d) s → (b : Bit)
    → IsUndrivenBit d b → bit s b ≡ 0
start_wires d s variables h b u = h.given b u.here u.undriven ∙ ap (λ n. bit_at n b.place) (no_start (variables b.var u.here.of_variable).starts)
    ∙ bit_at-zero b.place
  where
    no_start : HasStart (var_of d b.var) → (var_of d b.var).start ≡ 0
    no_start t = elim t [
      | inl none ↦ none
      | inr reg ↦ absurd (cc (u.of_wire, reg.0))
    ]

-- ---- a cycle

shuffled : (a b c k : ℕ) → a + b + c + k ≡ a + (b + k) + c
shuffled a b c k = omega arith

-- toggles counted before the edge, or behind it
pub counted_cycle : (old mid new comb edge toggles : List ℕ) → HasCounted old (comb ++ toggles) mid → HasCounted mid edge new
    → HasCounted old ((comb ++ edge) ++ toggles) new
counted_cycle old mid new comb edge toggles h i = record {
  as_many = i.as_many ∙ h.as_many;
  each = λ k lt. omega (
    arith,
    h.each k lt,
    i.each k (omega (arith, lt, h.as_many)),
    how_many_both k comb toggles,
    how_many_both k comb edge,
    how_many_both k
        (comb ++ edge) toggles,
  );
}

pub cycles : (x : Instrumented) (first : Bool) (r before s after : State) (row old mid new text : List ℕ) (end : End) → IsValidDesign x.design
    → Flows x.design → IsSettled x.design r row s
    → HasCounted old (comb_raised x.design s ++ toggled (settled_before first before) s x.toggles) mid
    → after ≡ all_written (turns runs_at_edge x.design s).state (turns runs_at_edge x.design s).updates
    → HasCounted mid (turns runs_at_edge x.design s).notes new
    → text ≡ output_line x.design.outputs s ++ (turns runs_at_edge x.design s).text
    → end ≡ end_of (turns runs_at_edge x.design s).finished (turns runs_at_edge x.design s).stopped
    → IsCycle x (record { registers = r; last_settled = settled_before first before; counts = old }) row
    (record { registers = after; last_settled = Some s; counts = new }) text end
cycles x first r before s after row old mid new text end valid flows settled first_counted left then_counted printed ends =
    let o : Outcome ℕ = turns runs_at_edge x.design s in
    let edge : IsEdgeOutcome x.design s o = edge_in_turn x.design s valid flows settled.agrees.is_state in
    record {
      cycle = cycle_on (circuit_of x.design) s;
      is_cycle = record { settled = settled; edge = subst (λ t. IsEdge (circuit_of x.design) s t) (sym left) edge.edge; on = refl };
      kept = refl;
      counted = counted_cycle old mid new (comb_raised x.design s) (edge_notes (circuit_of x.design) s) (toggled (settled_before first before) s x.toggles)
          first_counted
          (subst (λ r. HasCounted mid r new) edge.raised then_counted);
      printed = printed ∙ ap (λ t. output_line x.design.outputs s ++ t) edge.text;
      ends = ends ∙ ap₂ end_of edge.finished edge.stopped;
    }

-- ---- numbers

pub not_first : (n : ℕ) → (n + 1 == 0) ≡ false
not_first n = ne_eqb (n + 1) 0 (λ e. omega (arith, e))

length_toggled : (old : Option State) (s : State) (es : List ToggleEntry) → length (toggled old s es) ≤ length es
length_toggled None s es = omega arith
length_toggled (Some before) s [] = omega arith
length_toggled (Some before) s (x ∷ es) = go (is_toggled before s x) (length_toggled (Some before) s es)
  where
    go : (b : Bool) → length (toggled (Some before) s es) ≤ length es
        → length (map (λ e. e.counter) (cond b (x ∷ filter (is_toggled before s) es) (filter (is_toggled before s) es))) ≤ suc (length es)
    go true h = omega (arith, h)
    go false h = omega (arith, h)

pub few_settled : (old : Option State) (s : State) (es : List ToggleEntry) (a b comb : List ℕ) (n k : ℕ) → HasCounted a (comb ++ toggled old s es) b
    → length comb ≤ n
    → slice_index b k ≤ slice_index a k + n + length es
few_settled old s es a b comb n k h le = omega (
  arith,
  counted_least a (comb
      ++ toggled old s es) b k h,
  length-append comb (toggled old s es),
  length_toggled old s es,
  le,
)

pub few_more : (a b r : List ℕ) (n k : ℕ) → HasCounted a r b → length r ≤ n → slice_index b k ≤ slice_index a k + n
few_more a b r n k h le = omega (arith, counted_least a r b k h, le)
