-- The counter of the bits of a point comes to the changes of each.
use Rattle.std.proofs.Common.{◌≡◌, ℕ, zero, suc, ◌+◌, ◌<◌, Bool, true, false, cond, ◌||◌, eqb, List, [], ◌∷◌, ◌++◌, length, get_or, map, refl}
use Rattle.std.proofs.Common.{sym, ◌∙◌, ap, ap₂, arith}
use Rattle.std.specs.Prelude.{filter, flat_map, All, Contains}
use Rattle.std.specs.List.{AllByRecursion, list_any}
use Rattle.std.proofs.lemmas.Bool.{eqb-true, false≢true, true≢false, eq-eqb}
use Rattle.std.proofs.lemmas.Bool.Decides.{same_from_decides, Decides-eqb, Decides-like}
use Rattle.std.proofs.lemmas.List.Elements.{All-contains, recursion_from_All, Contains-get_or}
use Rattle.cov_points.specs.declared.table.PointTable.{PointTable}
use Rattle.cov_points.specs.declared.table.TogglePoint.{TogglePoint}
use Rattle.design_tree.specs.declared.design.Design.{Design}
use Rattle.design_tree.specs.declared.instrumented.ToggleEntry.{ToggleEntry}
use Rattle.design_tree.specs.declared.instrumented.Instrumented.{Instrumented}
use Rattle.circuit_run.specs.States.{Bit}
use Rattle.circuit_run.specs.Runs.{Run, all_notes}
use Rattle.circuit_run.specs.Lists.{how_many, total}
use Rattle.circuit_run.specs.Counting.{settled_states, changes}
use Rattle.circuit_law.specs.Renoted.{renoted_run}
use Rattle.design_meaning.specs.Counters.{toggle_bit}
use Rattle.design_meaning.specs.Runs.{counter_count}
use Rattle.counted_circuit.specs.Counts.{bit_of, bit_occurrences}
use Rattle.counted_circuit.proofs.CountedRuns.{raised_in_run}
use Rattle.counted_circuit.proofs.HowMany.{how_many_joined}
use Rattle.counted_circuit.proofs.PlainProof.{same_changes}
use Rattle.counted_laws.specs.DerivedTable.{bit_counters, entry_with, IsDerived}

-- ---- lists of bits

shut : (p : TogglePoint → Bool) (ts : List TogglePoint) → list_any p ts ≡ false → filter p ts ≡ []
shut p [] none = refl
shut p (t ∷ ts) none = elim (p t) as (λ b. (b || list_any p ts) ≡ false → cond b (t ∷ filter p ts) (filter p ts) ≡ []) [
  | true ↦ λ h. absurd (true≢false h)
  | false ↦ λ h. shut p ts h
] none

-- one of them that passes
record Passing (p : TogglePoint → Bool) (ts : List TogglePoint) : Type 0 where
  bit : TogglePoint
  there : Contains ts bit
  passes : p bit ≡ true

next : (p : TogglePoint → Bool) (t : TogglePoint) (ts : List TogglePoint) → Passing p ts → Passing p (t ∷ ts)
next p t ts found = record {
  bit = found.bit;
  there = let k = found.there in (suc k.0, (let h = k.1 in omega arith), k.2);
  passes = found.passes;
}

first : (p : TogglePoint → Bool) (t : TogglePoint) (ts : List TogglePoint) → p t ≡ true → Passing p (t ∷ ts)
first p t ts is = record { bit = t; there = (0, omega arith, refl); passes = is }

open_step : (p : TogglePoint → Bool) (t : TogglePoint) (ts : List TogglePoint) (b : Bool) → p t ≡ b → (list_any p ts ≡ true → Passing p ts)
    → (b || list_any p ts) ≡ true → Passing p (t ∷ ts)
open_step p t ts true is rest some = first p t ts is
open_step p t ts false is rest some = next p t ts (rest some)

found : (p : TogglePoint → Bool) (ts : List TogglePoint) → list_any p ts ≡ true → Passing p ts
found p [] some = absurd (false≢true some)
found p (t ∷ ts) some = open_step p t ts (p t) refl (found p ts) some

-- ---- what arms raise

none_noted : (carried : ℕ → List ℕ) (c : ℕ) → ((arm : ℕ) → how_many c (carried arm) ≡ 0) → (ns : List ℕ) → how_many c (flat_map carried ns) ≡ 0
none_noted carried c none [] = refl
none_noted carried c none (n ∷ ns) =
    how_many_joined c (carried n) (flat_map carried ns) ∙ ap₂ (λ (a b : ℕ). a + b) (none n) (none_noted carried c none ns)

zero_both : (a b : ℕ) → a ≡ 0 → b + 0 ≡ b → a + b ≡ b
zero_both a b e f = omega arith

plus_none : (a : ℕ) → a + 0 ≡ a
plus_none a = omega arith

module _ {carried : ℕ → List ℕ} {counter_of : ℕ → ℕ} {d : Design} {table : PointTable} {names : List (List ℕ)} {arms : ℕ} {x : Instrumented}
    (is : IsDerived carried counter_of d table names arms x) (r : Run ℕ) where
  abbrev counting : Run ℕ
  counting = renoted_run carried r

  -- an entry is taken where its bit is one of the point
  picked : (k : ℕ) (b : Bool) (t : TogglePoint) (es : List ToggleEntry) (ts : List TogglePoint)
      → total (map (λ e. changes (settled_states counting) (toggle_bit e)) es) ≡ total (map (λ u. changes (settled_states r) (bit_of u)) ts)
      → total (map (λ e. changes (settled_states counting) (toggle_bit e)) (cond b (entry_with counter_of t ∷ es) es))
      ≡ total (map (λ u. changes (settled_states r) (bit_of u)) (cond b (t ∷ ts) ts))
  picked k true t es ts e = ap₂ (λ (a b : ℕ). a + b) (same_changes carried r (bit_of t)) e
  picked k false t es ts e = e

  entries_total : (k : ℕ) (ts : List TogglePoint) → AllByRecursion (λ t. eqb (counter_of t.point) (counter_of k) ≡ eqb t.point k) ts
      → total (map (λ e. changes (settled_states counting) (toggle_bit e)) (filter (λ e. eqb e.counter (counter_of k)) (map (entry_with counter_of) ts)))
      ≡ total (map (λ u. changes (settled_states r) (bit_of u)) (filter (λ u. eqb u.point k) ts))
  entries_total k [] same = refl
  entries_total k (t ∷ ts) same =
      let es = filter (λ (e : ToggleEntry). eqb e.counter (counter_of k)) (map (entry_with counter_of) ts) in
      ap (λ (b : Bool). total (map (λ e. changes (settled_states counting) (toggle_bit e)) (cond b (entry_with counter_of t ∷ es) es))) same.0
      ∙ picked k (eqb t.point k) t es (filter (λ (u : TogglePoint). eqb u.point k) ts) (entries_total k ts same.1)

  -- where a bit has the point, its counter is that of the point's bits alone
  tests : (k : ℕ) (t : TogglePoint) → Contains table.toggles t → t.point ≡ k → (u : TogglePoint) → Contains table.toggles u
      → eqb (counter_of u.point) (counter_of k) ≡ eqb u.point k
  tests k t has same u other = same_from_decides (eqb (counter_of u.point) (counter_of k)) (eqb u.point k)
      (Decides-like (eqb (counter_of u.point) (counter_of k))
      (λ (e : counter_of u.point ≡ counter_of k). is.apart u t other has (e ∙ sym (ap counter_of same)) ∙ same)
      (λ (e : u.point ≡ k). ap counter_of e) (Decides-eqb (counter_of u.point) (counter_of k)))
      (Decides-eqb u.point k)

  by_one : (k : ℕ) → Passing (λ t. eqb t.point k) table.toggles → counter_count x counting (counter_of k) + 0 ≡ bit_occurrences table r k
  by_one k one =
      let same : one.bit.point ≡ k = eqb-true one.bit.point k one.passes in
      let unshared : (arm : ℕ) → how_many (counter_of k) (carried arm) ≡ 0 =
      λ arm. ap (λ (p : ℕ). how_many (counter_of p) (carried arm)) (sym same)
      ∙ All-contains (λ (t : TogglePoint). how_many (counter_of t.point) (carried arm) ≡ 0) table.toggles one.bit (is.unshared arm) one.there in
      let notes : how_many (counter_of k) (all_notes counting) ≡ 0 =
      ap (how_many (counter_of k)) (raised_in_run carried r) ∙ none_noted carried (counter_of k) unshared (all_notes r) in
      let all = recursion_from_All (λ (u : TogglePoint). eqb (counter_of u.point) (counter_of k) ≡ eqb u.point k) table.toggles
      (λ n u within. tests k one.bit one.there same (get_or table.toggles n u) (Contains-get_or table.toggles n u within)) in
      let entries = ap (λ (es : List ToggleEntry). total (map (λ e. changes (settled_states counting) (toggle_bit e))
      (filter (λ e. eqb e.counter (counter_of k)) es))) is.toggles ∙ entries_total k table.toggles all in
      plus_none (counter_count x counting (counter_of k))
      ∙ (ap₂ (λ (a b : ℕ). a + b) notes entries ∙ zero_both 0 (bit_occurrences table r k) refl (plus_none (bit_occurrences table r k)))

  by_test : (k : ℕ) (b : Bool) → list_any (λ t. eqb t.point k) table.toggles ≡ b
      → total (map (counter_count x counting) (cond b (counter_of k ∷ []) [])) ≡ bit_occurrences table r k
  by_test k true some = by_one k (found (λ t. eqb t.point k) table.toggles some)
  by_test k false none =
      sym (ap (λ (ts : List TogglePoint). total (map (λ u. changes (settled_states r) (bit_of u)) ts)) (shut (λ t. eqb t.point k) table.toggles none))

  -- the counter of the bits of a point comes to their changes
  pub bits_are : (k : ℕ) → total (map (counter_count x counting) (bit_counters counter_of table k)) ≡ bit_occurrences table r k
  bits_are k = by_test k (list_any (λ t. eqb t.point k) table.toggles) refl
