-- A start and cycles one after the other are a counted run.
use Rattle.std.proofs.Common.{◌≡◌, ◌≢◌, ◌∙◌, sym, ap, ap₂, subst, refl, ℕ, zero, suc, ◌+◌, ◌<◌, Bool, true, false, ◌||◌, List, [], ◌∷◌, ◌++◌, map, flat_map}
use Rattle.std.proofs.Common.{length, replicate, Option, Some, None, append-nil, arith}
use Rattle.std.specs.Prelude.{slice_index, if◌then◌else◌}
use Rattle.design_tree.specs.declared.instrumented.Instrumented.{Instrumented}
use Rattle.circuit_run.specs.States.{State}
use Rattle.circuit_run.specs.Writes.{all_written}
use Rattle.circuit_run.specs.Lists.{how_many}
use Rattle.circuit_run.specs.Circuits.{Circuit}
use Rattle.circuit_run.specs.Runs.{Cycle, Run, opening, output_line, rows_after, all_notes}
use Rattle.circuit_run.specs.Runs as circuit
use Rattle.circuit_run.specs.Ends.{End, goes, end_of, last_end}
use Rattle.design_meaning.specs.Circuit.{circuit_of}
use Rattle.design_meaning.specs.Counters.{toggled}
use Rattle.design_meaning.specs.Cycles.{Between, opened}
use Rattle.design_meaning.specs.MachineLaws.{AreCycles, no_rows, last, more, StartsAreRuns, CyclesAreRuns}
use Rattle.design_meaning.proofs.MachineCounts.{how_many_both, all_changes, no_changes, first_changes, since, next_changes}

flag_set : (f s : Bool) (e : End) → e ≡ end_of f s → e ≢ goes → (f || s) ≡ true
flag_set true s e h n = refl
flag_set false true e h n = refl
flag_set false false e h n = absurd (n h)

flag_clear : (f s : Bool) → goes ≡ end_of f s → (f || s) ≡ false
flag_clear true true h = absurd cc
flag_clear true false h = absurd cc
flag_clear false true h = absurd cc
flag_clear false false h = refl

module _ (x : Instrumented) where
  abbrev c : Circuit ℕ
  c = circuit_of x.design

  abbrev line : Cycle ℕ → List ℕ
  line k = output_line x.design.outputs k.settled ++ k.text

  abbrev settled_of : List (Cycle ℕ) → List State
  settled_of ks = map (λ k. k.settled) ks

  -- what the cycles from here add to a counter
  abbrev added : ℕ → Option State → List (Cycle ℕ) → ℕ
  added k before ks = how_many k (flat_map (λ j. j.notes) ks) + all_changes k x.toggles (since k before (settled_of ks))

  record AreRun (m : Between) (rows : List (List ℕ)) (after : Between) (text : List ℕ) (end : End) : Type 0 where
    cycles : List (Cycle ℕ)
    are : circuit.AreCycles c m.registers rows cycles
    prints : text ≡ flat_map line cycles
    ends : last_end goes cycles ≡ end
    as_many : length after.counts ≡ length m.counts
    counted : (k : ℕ) → k < length m.counts → slice_index after.counts k ≡ slice_index m.counts k + added k m.last_settled cycles

  nothing : (a b : ℕ) → b ≡ 0 → a ≡ a + (0 + b)
  nothing a b e = omega (arith, e)

  none_since : (k : ℕ) (before : Option State) → all_changes k x.toggles (since k before []) ≡ 0
  none_since k None = no_changes k x.toggles
  none_since k (Some s) = first_changes k x.toggles s

  sums : (new mid old notes toggles rest later changes : ℕ) → new ≡ mid + (rest + changes) → mid ≡ old + (notes + toggles) → later ≡ toggles + changes
      → new ≡ old + (notes + rest + later)
  sums new mid old notes toggles rest later changes a b c = omega (arith, a, b, c)

  -- one cycle counted, and then the others
  one_then : (k : ℕ) (before : Option State) (old mid new : List ℕ) (j : Cycle ℕ) (ks : List (Cycle ℕ))
      → slice_index mid k ≡ slice_index old k + how_many k (j.notes ++ toggled before j.settled x.toggles)
      → slice_index new k ≡ slice_index mid k + added k (Some j.settled) ks
      → slice_index new k ≡ slice_index old k + added k before (j ∷ ks)
  one_then k before old mid new j ks h g =
      sums (slice_index new k) (slice_index mid k) (slice_index old k) (how_many k j.notes) (how_many k (toggled before j.settled x.toggles))
      (how_many k (flat_map (λ i. i.notes) ks)) (all_changes k x.toggles (since k before (settled_of (j ∷ ks))))
      (all_changes k x.toggles (j.settled ∷ settled_of ks))
      g (h ∙ ap (λ n. slice_index old k + n) (how_many_both k j.notes (toggled before j.settled x.toggles)))
      (next_changes k x.toggles before j.settled (settled_of ks))
      ∙ ap (λ n. slice_index old k + (n + all_changes k x.toggles (since k before (settled_of (j ∷ ks)))))
      (sym (how_many_both k j.notes (flat_map (λ i. i.notes) ks)))

  are_run : {m after : Between} {rows : List (List ℕ)} {text : List ℕ} {end : End} → AreCycles x m rows after text end → AreRun m rows after text end
  are_run (no_rows {m}) = record {
    cycles = [];
    are = circuit.no_rows;
    prints = refl;
    ends = refl;
    as_many = refl;
    counted = λ k lt. nothing (slice_index m.counts k) (all_changes k x.toggles (since k m.last_settled [])) (none_since k m.last_settled);
  }
  are_run (last {m} {after} {row} {rows} {text} {end} i n) =
      let j : Cycle ℕ = i.cycle in
      record {
        cycles = j ∷ [];
        are = circuit.last i.is_cycle (flag_set j.finished j.stopped end i.ends n);
        prints = i.printed ∙ sym (append-nil (line j));
        ends = sym i.ends;
        as_many = i.counted.as_many;
        counted = λ k lt. one_then k m.last_settled m.counts after.counts after.counts j [] (i.counted.each k lt)
            (nothing (slice_index after.counts k) (all_changes k x.toggles (j.settled ∷ [])) (first_changes k x.toggles j.settled));
      }
  are_run (more {m} {mid} {after} {row} {rows} {text} {texts} {end} i rest) =
      let j : Cycle ℕ = i.cycle in
      let r : AreRun mid rows after texts end = are_run rest in
      record {
        cycles = j ∷ r.cycles;
        are = circuit.more i.is_cycle (flag_clear j.finished j.stopped i.ends) r.are;
        prints = ap₂ (λ a b. a ++ b) i.printed r.prints;
        ends = ap (λ e. last_end e r.cycles) (sym i.ends) ∙ r.ends;
        as_many = r.as_many ∙ i.counted.as_many;
        counted = λ k lt. one_then k m.last_settled m.counts mid.counts after.counts j r.cycles (i.counted.each k lt)
            (r.counted k (subst (λ n. k < n) (sym i.counted.as_many) lt) ∙ ap (λ b. slice_index mid.counts k + added k b r.cycles) i.kept);
      }

zeros : (n k : ℕ) → slice_index (replicate n 0) k ≡ 0
zeros zero k = refl
zeros (suc n) zero = refl
zeros (suc n) (suc k) = zeros n k

length_zeros : (n : ℕ) → length {A = ℕ} (replicate n 0) ≡ n
length_zeros zero = refl
length_zeros (suc n) = ap suc (length_zeros n)

add_up : (new first zero_count start notes changes : ℕ) → new ≡ first + (notes + changes) → first ≡ zero_count + start → zero_count ≡ 0
    → new ≡ start + notes + changes
add_up new first zero_count start notes changes a b c = omega (arith, a, b, c)

pub cycles_are_runs : CyclesAreRuns
cycles_are_runs x rows first after text texts end s a =
    let r = are_run x a in
    let o = opened x s.start in
    let flag : (o.finished || o.stopped) ≡ false = flag_clear o.finished o.stopped s.ends in
    let many : length first.counts ≡ x.counters = s.counted.as_many ∙ length_zeros x.counters in
    record {
      run = record { opened = o; cycles = r.cycles };
      is_run = record {
        start = s.start;
        is_start = s.is_start;
        opened = refl;
        cycles = subst (λ f. circuit.AreCycles (circuit_of x.design) (all_written o.state o.updates) (if f then [] else rows) r.cycles) (sym flag)
            (subst (λ regs. circuit.AreCycles (circuit_of x.design) regs rows r.cycles) s.registers r.are);
      };
      prints = ap₂ (λ p q. p ++ q) s.printed r.prints;
      ends = sym r.ends ∙ ap (λ e. last_end e r.cycles) s.ends;
      as_many = r.as_many ∙ many;
      counted = λ k lt.
          add_up (slice_index after.counts k) (slice_index first.counts k) (slice_index (replicate x.counters 0) k) (how_many k o.notes)
          (how_many k (flat_map (λ j. j.notes) r.cycles)) (all_changes k x.toggles (map (λ j. j.settled) r.cycles))
          (r.counted k (subst (λ n. k < n) (sym many) lt)
          ∙ ap (λ b. slice_index first.counts k +
          (how_many k (flat_map (λ j. j.notes) r.cycles) + all_changes k x.toggles (since k b (map (λ j. j.settled) r.cycles)))) s.unsettled)
          (s.counted.each k (subst (λ n. k < n) (sym (length_zeros x.counters)) lt)) (zeros x.counters k)
          ∙ ap (λ n. n + all_changes k x.toggles (map (λ j. j.settled) r.cycles)) (sym (how_many_both k o.notes (flat_map (λ j. j.notes) r.cycles)));
    }

start_sum : (new zero_count start changes : ℕ) → new ≡ zero_count + start → zero_count ≡ 0 → changes ≡ 0 → new ≡ start + changes
start_sum new zero_count start changes a b c = omega (arith, a, b, c)

pub starts_are_runs : StartsAreRuns
starts_are_runs x rows after text end s n =
    let o = opened x s.start in
    let flag : (o.finished || o.stopped) ≡ true = flag_set o.finished o.stopped end s.ends n in
    let many : length after.counts ≡ x.counters = s.counted.as_many ∙ length_zeros x.counters in
    record {
      run = record { opened = o; cycles = [] };
      is_run = record {
        start = s.start;
        is_start = s.is_start;
        opened = refl;
        cycles = subst (λ f. circuit.AreCycles (circuit_of x.design) (all_written o.state o.updates) (if f then [] else rows) []) (sym flag) circuit.no_rows;
      };
      prints = s.printed ∙ sym (append-nil o.text);
      ends = s.ends;
      as_many = many;
      counted = λ k lt.
          start_sum (slice_index after.counts k) (slice_index (replicate x.counters 0) k) (how_many k o.notes) (all_changes k x.toggles [])
          (s.counted.each k (subst (λ n. k < n) (sym (length_zeros x.counters)) lt)) (zeros x.counters k) (no_changes k x.toggles)
          ∙ ap (λ ns. how_many k ns + all_changes k x.toggles []) (sym (append-nil o.notes));
    }
