-- With one counter for each point, counts are occurrences: the proof.
use Rattle.std.specs.Prelude.{◌≡◌, refl, ℕ, ◌+◌, ◌-◌, ◌==◌, not, Bool, true, false, cond, List, [], ◌∷◌, ◌++◌, length, map, flat_map, filter, Option, Some}
use Rattle.std.specs.Prelude.{None, slice_index_or}
use Rattle.std.proofs.Common.{sym, ◌∙◌, ap, ap₂, arith}
use Rattle.cov_points.specs.declared.table.PointTable.{PointTable}
use Rattle.cov_points.specs.declared.table.TogglePoint.{TogglePoint}
use Rattle.design_tree.specs.declared.design.Design.{Design}
use Rattle.design_tree.specs.declared.instrumented.ToggleEntry.{ToggleEntry}
use Rattle.design_tree.specs.declared.instrumented.Instrumented.{Instrumented}
use Rattle.circuit_run.specs.States.{Bit, bit}
use Rattle.circuit_run.specs.Outcomes.{Outcome}
use Rattle.circuit_run.specs.Runs.{Run, Cycle, IsRun, all_notes}
use Rattle.circuit_law.specs.Renoted.{renoted_cycle, renoted_run}
use Rattle.circuit_run.specs.Lists.{total}
use Rattle.circuit_run.specs.Counting.{settled_states, successive, changes}
use Rattle.counted_circuit.specs.Circuits.{told_circuit}
use Rattle.counted_circuit.proofs.CountedRuns.{counted_run, raised_in_run}
use Rattle.design_meaning.specs.Runs.{counter_count}
use Rattle.counted_circuit.specs.Counts.{is_number, bit_of, point_occurrences}
use Rattle.design_meaning.specs.Counters.{toggle_bit}
use Rattle.counted_circuit.specs.Instrument.{nothing, seen, CountsRun}
use Rattle.counted_circuit.specs.Plain.{as_list, carried_points, entry_of, IsPlainlyCounted}

-- ---- lists

length_pick : {X : Type 0} (b : Bool) (x : X) (xs : List X) → length (cond b (x ∷ xs) xs) ≡ cond b 1 0 + length xs
length_pick true x xs = omega arith
length_pick false x xs = omega arith

abbrev how_many : ℕ → List ℕ → ℕ
how_many k ns = length (filter (λ n. n == k) ns)

how_many_joined : (k : ℕ) (xs ys : List ℕ) → how_many k (xs ++ ys) ≡ how_many k xs + how_many k ys
how_many_joined k [] ys = omega arith
how_many_joined k (x ∷ xs) ys =
    length_pick (x == k) x (filter (λ n. n == k) (xs ++ ys))
    ∙ ap (λ n. cond (x == k) 1 0 + n) (how_many_joined k xs ys)
    ∙ assoc (cond (x == k) 1 0) (how_many k xs) (how_many k ys)
    ∙ ap (λ n. n + how_many k ys) (sym (length_pick (x == k) x (filter (λ n. n == k) xs))) where
      assoc : (a b c : ℕ) → a + (b + c) ≡ a + b + c
      assoc a b c = omega arith

how_many_of : (k : ℕ) (point : Option ℕ) → how_many k (as_list point) ≡ cond (is_number k point) 1 0
how_many_of k None = refl
how_many_of k (Some n) = length_pick (n == k) n [] ∙ none (cond (n == k) 1 0) where
  none : (a : ℕ) → a + 0 ≡ a
  none a = omega arith

-- what arms raise of a point is how often they are arms of the point
raised_points : (k : ℕ) (point_of : ℕ → Option ℕ) (arms : List ℕ)
    → how_many k (flat_map (λ arm. as_list (point_of arm)) arms) ≡ length (filter (λ arm. is_number k (point_of arm)) arms)
raised_points k point_of [] = refl
raised_points k point_of (arm ∷ arms) =
    how_many_joined k (as_list (point_of arm)) (flat_map (λ a. as_list (point_of a)) arms)
    ∙ ap₂ (λ a b. a + b) (how_many_of k (point_of arm)) (raised_points k point_of arms)
    ∙ sym (length_pick (is_number k (point_of arm)) arm (filter (λ a. is_number k (point_of a)) arms))

-- ---- runs with other notes

nothing_of : (ns : List ℕ) → flat_map nothing ns ≡ []
nothing_of [] = refl
nothing_of (n ∷ ns) = nothing_of ns

module _ (t : ℕ → List ℕ) where
  abbrev with_notes : Cycle ℕ → List ℕ → Cycle ℕ
  with_notes k notes = record { settled = k.settled; notes = notes; text = k.text; finished = k.finished; stopped = k.stopped }

  abbrev opened_with : Outcome ℕ → List ℕ → Outcome ℕ
  opened_with o notes = record { state = o.state; updates = o.updates; text = o.text; notes = notes; finished = o.finished; stopped = o.stopped }

  abbrev a_run : Outcome ℕ → List (Cycle ℕ) → Run ℕ
  a_run opened cycles = record { opened = opened; cycles = cycles }

  same_cycles : (ks : List (Cycle ℕ)) → map (renoted_cycle nothing) (map (renoted_cycle t) ks) ≡ map (renoted_cycle nothing) ks
  same_cycles [] = refl
  same_cycles (k ∷ ks) = ap₂ (λ c cs. with_notes k c ∷ cs) (nothing_of (flat_map t k.notes) ∙ sym (nothing_of k.notes)) (same_cycles ks)

  pub same_seen : (r : Run ℕ) → seen (renoted_run t r) ≡ seen r
  same_seen r = ap₂ (λ notes cycles. a_run (opened_with r.opened notes) cycles)
      (nothing_of (flat_map t r.opened.notes) ∙ sym (nothing_of r.opened.notes)) (same_cycles r.cycles)

  same_states : (ks : List (Cycle ℕ)) → map (λ k. k.settled) (map (renoted_cycle t) ks) ≡ map (λ k. k.settled) ks
  same_states [] = refl
  same_states (k ∷ ks) = ap (λ ss. k.settled ∷ ss) (same_states ks)

  pub same_changes : (r : Run ℕ) (b : Bit) → changes (settled_states (renoted_run t r)) b ≡ changes (settled_states r) b
  same_changes r b = ap (λ states. length (filter (λ pair. not (bit pair.0 b == bit pair.1 b)) (successive states))) (same_states r.cycles)

-- ---- toggles

-- an entry is taken where its point is
picked : (r q : Run ℕ) → ((b : Bit) → changes (settled_states q) b ≡ changes (settled_states r) b)
    → (b : Bool) (t : TogglePoint) (es : List ToggleEntry) (ts : List TogglePoint)
    → total (map (λ e. changes (settled_states q) (toggle_bit e)) es) ≡ total (map (λ u. changes (settled_states r) (bit_of u)) ts)
    → total (map (λ e. changes (settled_states q) (toggle_bit e)) (cond b (entry_of t ∷ es) es))
    ≡ total (map (λ u. changes (settled_states r) (bit_of u)) (cond b (t ∷ ts) ts))
picked r q same true t es ts e = ap₂ (λ a b. a + b) (same (bit_of t)) e
picked r q same false t es ts e = e

toggles_of : (r q : Run ℕ) → ((b : Bit) → changes (settled_states q) b ≡ changes (settled_states r) b) → (k : ℕ) (ts : List TogglePoint)
    → total (map (λ t. changes (settled_states q) (toggle_bit t)) (filter (λ t. t.counter == k) (map entry_of ts)))
    ≡ total (map (λ t. changes (settled_states r) (bit_of t)) (filter (λ t. t.point == k) ts))
toggles_of r q same k [] = refl
toggles_of r q same k (t ∷ ts) =
    picked r q same (t.point == k) t (filter (λ e. e.counter == k) (map entry_of ts)) (filter (λ u. u.point == k) ts) (toggles_of r q same k ts)

-- ---- the whole

alone : (n : ℕ) → n + 0 - 0 ≡ n
alone n = omega arith

module _ (d : Design) (table : PointTable) (names : List (List ℕ)) (arms : ℕ) (x : Instrumented)
    (plain : IsPlainlyCounted d table names arms x) where
  -- the counter of a point comes to its occurrences
  counter_is : (r : Run ℕ) (k : ℕ) → counter_count x (renoted_run (carried_points table) r) k ≡ point_occurrences table r k
  counter_is r k = ap₂ (λ a b. a + b)
      (ap (how_many k) (raised_in_run (carried_points table) r) ∙ raised_points k (λ arm. slice_index_or table.arm_points arm None) (all_notes r))
      (ap (λ entries. total (map (λ t. changes (settled_states (renoted_run (carried_points table) r)) (toggle_bit t)) (filter (λ t. t.counter == k) entries)))
      plain.toggles
      ∙ toggles_of r (renoted_run (carried_points table) r) (same_changes (carried_points table) r) k table.toggles)

  -- on the rows of each run of the design the instrumented one has the same run, and its counts are the occurrences
  pub counts_runs : (rows : List (List ℕ)) (r : Run ℕ) → IsRun (told_circuit d) rows r → CountsRun table names x rows r
  counts_runs rows r run = record {
    counting = renoted_run (carried_points table) r;
    run = counted_run (carried_points table) d x.design arms rows r plain.design run;
    same = same_seen (carried_points table) r;
    counted = λ k row is.
        ap₂ (λ plus minus. total (map (counter_count x (renoted_run (carried_points table) r)) plus) - total
        (map (counter_count x (renoted_run (carried_points table) r)) minus))
        (plain.plus k row is) (plain.minus k row is)
        ∙ alone (counter_count x (renoted_run (carried_points table) r) k)
        ∙ counter_is r k;
  }
