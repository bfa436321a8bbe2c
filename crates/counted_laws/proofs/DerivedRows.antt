-- Rows of derived counts give the points of a table, and instrument a design with it: the proofs.
use Rattle.std.proofs.Common.{◌≡◌, ℕ, ◌+◌, ◌-◌, Bool, true, false, cond, eqb, List, [], ◌∷◌, ◌++◌, map, inl, inr, refl, sym, ◌∙◌, ap, ap₂, arith}
use Rattle.std.specs.Prelude.{filter, All}
use Rattle.std.specs.List.{AllByRecursion}
use Rattle.std.proofs.lemmas.Bool.Decides.{eqb_tells}
use Rattle.std.proofs.lemmas.List.Elements.{recursion_from_All}
use Rattle.cov_points.specs.declared.table.PointTable.{PointTable}
use Rattle.cov_points.specs.declared.table.TogglePoint.{TogglePoint}
use Rattle.design_tree.specs.declared.step.StepArm.{StepArm}
use Rattle.design_tree.specs.declared.step.Step.{Step}
use Rattle.design_tree.specs.declared.design.Process.{Process}
use Rattle.design_tree.specs.declared.design.Design.{Design}
use Rattle.design_tree.specs.declared.instrumented.PointRow.{PointRow}
use Rattle.design_tree.specs.declared.instrumented.ToggleEntry.{ToggleEntry}
use Rattle.design_tree.specs.declared.instrumented.Instrumented.{Instrumented}
use Rattle.circuit_run.specs.Runs.{Run, IsRun, all_notes}
use Rattle.circuit_run.specs.Lists.{how_many, total}
use Rattle.circuit_run.specs.Counting.{settled_states, changes}
use Rattle.circuit_law.specs.Renoted.{renoted_run}
use Rattle.design_meaning.specs.Counters.{toggle_bit}
use Rattle.design_meaning.specs.Runs.{counter_count, row_count}
use Rattle.counted_circuit.specs.Inserted.{AreCounted, no_steps, plain, an_if, a_case, ArmsAreCounted, no_arms, an_arm, IsCountedProcess, assignment, cover}
use Rattle.counted_circuit.specs.Inserted.{comb, clocked, initial, AreCountedProcesses, no_processes, more}
use Rattle.counted_circuit.specs.CountedDesign.{IsCountedDesign}
use Rattle.counted_circuit.specs.Circuits.{told_circuit}
use Rattle.counted_circuit.specs.Counts.{times, arm_occurrences, bit_occurrences, point_occurrences}
use Rattle.counted_circuit.specs.Instrument.{IsPointRow}
use Rattle.counted_circuit.specs.Balance.{HasNoCounts}
use Rattle.counted_circuit.specs.DerivedLists.{HasLists, own, no_arm, together}
use Rattle.counted_circuit.proofs.HowMany.{of_same}
use Rattle.counted_circuit.proofs.CountedRuns.{counted_run}
use Rattle.counted_circuit.proofs.SameFlow.{same_flow}
use Rattle.counted_circuit.proofs.PlainProof.{same_seen}
use Rattle.counted_circuit.proofs.ListsGive.{lists_give}
use Rattle.counted_laws.specs.DerivedTable as table
use Rattle.counted_laws.specs.DerivedTable.{arms_with, bit_counters, entry_with, HaveLists, IsDerived, DerivedCountsGive, RowsInstrument}
use Rattle.counted_laws.proofs.Sums.{sum_joined}
use Rattle.counted_laws.proofs.ArmTotals.{arm_total}
use Rattle.counted_laws.proofs.BitTotals.{bits_are}

-- a counter that some arm carries alone
abbrev IsHeld : (ℕ → List ℕ) → ℕ → Type 0
IsHeld carried c = (arm : ℕ) × (carried arm ≡ c ∷ [])

both_held : (carried : ℕ → List ℕ) (xs ys : List ℕ) → AllByRecursion (IsHeld carried) xs → AllByRecursion (IsHeld carried) ys
    → AllByRecursion (IsHeld carried) (xs ++ ys)
both_held carried [] ys a b = b
both_held carried (x ∷ xs) ys a b = (a.0, both_held carried xs ys a.1 b)

-- ---- a design to which counts can be put in has none

module _ {carried : ℕ → List ℕ} where
  mutual
    steps_alone : {n m : ℕ} {ss ts : List Step} → AreCounted carried n ss ts m → AreCounted (λ k. []) n ss ss m
    steps_alone no_steps = no_steps
    steps_alone (plain p c) = plain p (steps_alone c)
    steps_alone (an_if test l r c) = an_if test (steps_alone l) (steps_alone r) (steps_alone c)
    steps_alone (a_case on a r c) = a_case on (arms_alone a) (steps_alone r) (steps_alone c)

    arms_alone : {n m : ℕ} {arms arms' : List StepArm} → ArmsAreCounted carried n arms arms' m → ArmsAreCounted (λ k. []) n arms arms m
    arms_alone no_arms = no_arms
    arms_alone (an_arm items c cs) = an_arm items (steps_alone c) (arms_alone cs)

  process_alone : {n m : ℕ} {p q : Process} → IsCountedProcess carried n p q m → IsCountedProcess (λ k. []) n p p m
  process_alone (assignment p) = assignment p
  process_alone (cover test) = cover test
  process_alone (comb c) = comb (steps_alone c)
  process_alone (clocked c) = clocked (steps_alone c)
  process_alone (initial c) = initial (steps_alone c)

  processes_alone : {n m : ℕ} {ps qs : List Process} → AreCountedProcesses carried n ps qs m → AreCountedProcesses (λ k. []) n ps ps m
  processes_alone no_processes = no_processes
  processes_alone (more c cs) = more (process_alone c) (processes_alone cs)

  has_no_counts : {d e : Design} {arms : ℕ} → IsCountedDesign carried d e arms → HasNoCounts d
  has_no_counts {d} {e} {arms} is = (arms, record { vars = refl; inputs = refl; outputs = refl; processes = processes_alone is.processes })

  -- ---- the lists of some arms

  held : {d : Design} {arm : ℕ} {plus minus : List ℕ} → HasLists carried d arm plus minus
      → AllByRecursion (IsHeld carried) plus × AllByRecursion (IsHeld carried) minus
  held (own {arm} {counter} h) = (((arm, h.carries), tt), tt)
  held (no_arm f member h lists) = let more = held lists in (more.0, ((f.yes_arm, h.carries), more.1))

  all_held : {d : Design} {arms plus minus : List ℕ} → HaveLists carried d arms plus minus
      → AllByRecursion (IsHeld carried) plus × AllByRecursion (IsHeld carried) minus
  all_held table.none = (tt, tt)
  all_held (table.more {arm} {arms} {plus} {minus} {others} {less} h hs) =
      let one = held h in
      let rest = all_held hs in
      (both_held carried plus others one.0 rest.0, both_held carried minus less one.1 rest.1)

  lists_total : {d : Design} {arms plus minus : List ℕ} → HaveLists carried d arms plus minus → HasNoCounts d → (rows : List (List ℕ)) (r : Run ℕ)
      → IsRun (told_circuit d) rows r
      → together (renoted_run carried r) plus ≡ total (map (λ a. times a r) arms) + together (renoted_run carried r) minus
  lists_total table.none alone rows r run = refl
  lists_total {d} (table.more {arm} {arms} {plus} {minus} {others} {less} h hs) alone rows r run =
      let counting = renoted_run carried r in
      sums (together counting plus) (together counting others) (times arm r) (together counting minus) (total (map (λ a. times a r) arms))
      (together counting less) (together counting (plus ++ others)) (together counting (minus ++ less))
      (sum_joined (λ c. times c counting) plus others) (lists_give carried d rows r arm plus minus alone run h) (lists_total hs alone rows r run)
      (sum_joined (λ c. times c counting) minus less) where
        sums : (p q t m s l w z : ℕ) → w ≡ p + q → p ≡ t + m → q ≡ s + l → z ≡ m + l → w ≡ (t + s) + z
        sums p q t m s l w z e f g h = omega arith

-- ---- counters of arms raise no bits

one_there : (c k : ℕ) (list : List ℕ) → list ≡ c ∷ [] → k ≡ c → how_many k list ≡ 0 → ⊥
one_there c k list is same none = let one = ap₂ how_many same is ∙ of_same c [] in omega arith

no_entries : (counter_of : ℕ → ℕ) (c : ℕ) (list : List ℕ) → list ≡ c ∷ [] → (ts : List TogglePoint)
    → AllByRecursion (λ t. how_many (counter_of t.point) list ≡ 0) ts → filter (λ e. eqb e.counter c) (map (entry_with counter_of) ts) ≡ []
no_entries counter_of c list is [] all = refl
no_entries counter_of c list is (t ∷ ts) all = elim (eqb_tells (counter_of t.point) c) as
    (λ _. filter (λ e. eqb e.counter c) (map (entry_with counter_of) (t ∷ ts)) ≡ []) [
      | inl h ↦ absurd (one_there c (counter_of t.point) list is h.1 all.0)
      | inr h ↦ ap (λ (b : Bool). cond b (entry_with counter_of t ∷ filter (λ e. eqb e.counter c) (map (entry_with counter_of) ts))
          (filter (λ e. eqb e.counter c) (map (entry_with counter_of) ts))) h.0 ∙ no_entries counter_of c list is ts all.1
    ]

plus_none : (a : ℕ) → a + 0 ≡ a
plus_none a = omega arith

difference : (p m taken less a b : ℕ) → p ≡ taken + b → m ≡ less → taken ≡ a + less → p - m ≡ a + b
difference p m taken less a b e f g = omega arith

module _ {carried : ℕ → List ℕ} {counter_of : ℕ → ℕ} {d : Design} {points : PointTable} {names : List (List ℕ)} {arms : ℕ} {x : Instrumented}
    (is : IsDerived carried counter_of d points names arms x) where
  one_counter : (r : Run ℕ) (c : ℕ) → IsHeld carried c → counter_count x r c ≡ times c r
  one_counter r c h =
      ap (λ (es : List ToggleEntry). how_many c (all_notes r) + total (map (λ e. changes (settled_states r) (toggle_bit e)) es))
      (ap (filter (λ (e : ToggleEntry). eqb e.counter c)) is.toggles
      ∙ no_entries counter_of c (carried h.0) h.1 points.toggles
      (recursion_from_All (λ (t : TogglePoint). how_many (counter_of t.point) (carried h.0) ≡ 0) points.toggles (is.unshared h.0)))
      ∙ plus_none (how_many c (all_notes r))

  counters_are : (r : Run ℕ) (cs : List ℕ) → AllByRecursion (IsHeld carried) cs → total (map (counter_count x r) cs) ≡ together r cs
  counters_are r [] all = refl
  counters_are r (c ∷ cs) all = ap₂ (λ (a b : ℕ). a + b) (one_counter r c all.0) (counters_are r cs all.1)

  gives : (rows : List (List ℕ)) (r : Run ℕ) (k : ℕ) (row : PointRow) → IsRun (told_circuit d) rows r → IsPointRow names points x k row
      → row_count x (renoted_run carried r) row ≡ point_occurrences points r k
  gives rows r k row run its =
      let counting = renoted_run carried r in
      let has = is.rows k row its in
      let all = all_held has.1 in
      let plus : total (map (counter_count x counting) row.plus) ≡ together counting has.0 + bit_occurrences points r k =
      ap (λ (cs : List ℕ). total (map (counter_count x counting) cs)) has.2
      ∙ (sum_joined (counter_count x counting) has.0 (bit_counters counter_of points k)
      ∙ ap₂ (λ (a b : ℕ). a + b) (counters_are counting has.0 all.0) (bits_are is r k)) in
      let lists = lists_total has.1 (has_no_counts is.design) rows r run
      ∙ ap (λ (a : ℕ). a + together counting row.minus) (arm_total k points.arm_points (all_notes r)) in
      difference (total (map (counter_count x counting) row.plus)) (total (map (counter_count x counting) row.minus)) (together counting has.0)
      (together counting row.minus) (arm_occurrences points r k) (bit_occurrences points r k) plus (counters_are counting row.minus all.1) lists

pub derived_counts_give : DerivedCountsGive
derived_counts_give carried counter_of d points names arms x is = record { design = is.design; gives = gives is }

pub rows_instrument : RowsInstrument
rows_instrument carried d points names arms x gives valid as_many each = record {
  valid = valid;
  flows = same_flow gives.design;
  vars = gives.design.vars;
  inputs = gives.design.inputs;
  outputs = gives.design.outputs;
  as_many = as_many;
  each = each;
  runs = λ rows r run. record {
    counting = renoted_run carried r;
    run = counted_run carried d x.design arms rows r gives.design run;
    same = same_seen carried r;
    counted = λ k row its. gives.gives rows r k row run its;
  };
}
