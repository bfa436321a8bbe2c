-- There are at most as many counters as arms that may have one.
use Rattle.std.proofs.Common.{◌≡◌, ℕ, ◌+◌, ◌<◌, ◌≤◌, zero, suc, Bool, true, false, cond, not, ◌&&◌, List, [], ◌∷◌, map, length, get_or, inl, inr, refl, sym, ◌∙◌, ap, subst, arith}
use Rattle.std.specs.Prelude.{◌⊎◌, Option, None, filter, is_some, slice_index_or}
use Rattle.std.proofs.lemmas.List.{get_or_past, length-map}
use Rattle.std.proofs.lemmas.Bool.{cases_lt}
use Rattle.circuit_run.specs.Lists.{numbered}
use Rattle.counted_circuit.specs.Sorts as sort
use Rattle.counted_circuit.specs.Sorts.{Sort}
use Rattle.counted_circuit.specs.Bound.{may_carry}
use Rattle.mark_numbers.specs.Numbers.{is_set, how_many_set, HaveNumbers}
use Rattle.arm_rows.specs.declared.row.ArmRow.{ArmRow}
use Rattle.arm_rows.specs.declared.row.ArmRow.TheVariants as row
use Rattle.arm_rows.specs.Rows.{row_at, may_hold, sort_of}
use Rattle.arm_counters.specs.Needed.{AreRows, AreNeeded, has_point, is_no_arm}
use Rattle.arm_counters.specs.Counters.{AreCarrying, AreCounters, carriers}
use Rattle.arm_counters.proofs.Telling.{told}

-- ---- set flags are no more than what a test lets through that they imply

one_more : {X : Type 0} (b : Bool) (x : X) (xs : List X) → b ≡ true → length (cond b (x ∷ xs) xs) ≡ length xs + 1
one_more true x xs e = omega arith
one_more false x xs e = absurd (cc)

no_fewer : {X : Type 0} (b : Bool) (x : X) (xs : List X) → length xs ≤ length (cond b (x ∷ xs) xs)
no_fewer true x xs = omega arith
no_fewer false x xs = omega arith

set_pass : (p : ℕ × Sort → Bool) (k : ℕ) (flags : List Bool) (sorts : List Sort) → length flags ≡ length sorts
    → ((i j : ℕ) → j ≡ k + i → is_set flags i ≡ true → p (j, get_or sorts i sort.assignment) ≡ true)
    → how_many_set flags ≤ length (filter p (numbered k sorts))
set_pass p k [] sorts e h = omega arith
set_pass p k (f ∷ flags) [] e h = absurd (omega arith)
set_pass p k (true ∷ flags) (s ∷ sorts) e h =
    let t = one_more (p (k, s)) (k, s) (filter p (numbered (k + 1) sorts)) (h 0 k (omega arith) refl) in
    let r = set_pass p (k + 1) flags sorts (omega arith) (λ i j is q. h (suc i) j (omega arith) q) in
    omega arith
set_pass p k (false ∷ flags) (s ∷ sorts) e h =
    let t = no_fewer (p (k, s)) (k, s) (filter p (numbered (k + 1) sorts)) in
    let r = set_pass p (k + 1) flags sorts (omega arith) (λ i j is q. h (suc i) j (omega arith) q) in
    omega arith

-- ---- an arm with a counter may have one

pub sort_at : (rows : List ArmRow) (i : ℕ) → get_or (map sort_of rows) i sort.assignment ≡ sort_of (row_at rows i)
sort_at [] i = refl
sort_at (r ∷ rows) zero = refl
sort_at (r ∷ rows) (suc i) = sort_at rows i

may : (r : ArmRow) (b : Bool) → is_no_arm r ≡ false → (r ≡ row.Assignment → b ≡ false) → (b ≡ true) ⊎ (may_hold r ≡ true)
    → may_carry (sort_of r) b ≡ true
may row.Body b other free why = refl
may row.Assignment b other free (inl e) = let f = free refl in cc
may row.Assignment b other free (inr e) = absurd (cc)
may row.Cover b other free why = refl
may row.Yes b other free why = refl
may (row.No a y) b other free why = absurd (cc)
may row.Listed b other free why = refl
may (row.NoMatch true) b other free why = refl
may (row.NoMatch false) b other free (inl e) = e
may (row.NoMatch false) b other free (inr e) = absurd (cc)

of_and : (a b : Bool) → (a && not b) ≡ true → (a ≡ true) × (b ≡ false)
of_and true true h = absurd (cc)
of_and true false h = (refl, refl)
of_and false b h = absurd (cc)

module _ (rows : List ArmRow) (points : List (Option ℕ)) (marks flags : List Bool) (next : ℕ) (numbers : List (Option ℕ)) (are : AreRows rows)
    (needed : AreNeeded rows points 0 marks) (carrying : AreCarrying rows marks flags) (numbers_are : HaveNumbers flags 0 next numbers)
    (as_many : length points ≡ length rows)
    (free : (n : ℕ) → row_at rows n ≡ row.Assignment → has_point points n ≡ false) where
  -- flags beyond the rows aren't set
  inside : (xs : List Bool) → length xs ≡ length rows → (i : ℕ) → is_set xs i ≡ true → i < length rows
  inside xs e i h = elim (cases_lt i (length rows)) [
    | inl lt ↦ lt
    | inr past ↦ absurd (let g = get_or_past xs i false (omega arith) in let n : false ≡ true = sym g ∙ h in cc)
  ]

  passes : (i : ℕ) → is_set flags i ≡ true → may_carry (get_or (map sort_of rows) i sort.assignment) (has_point points i) ≡ true
  passes i h =
      let lt = inside flags carrying.many i h in
      let parts = of_and (is_set marks i) (is_no_arm (row_at rows i)) (sym (carrying.each i lt) ∙ h) in
      ap (λ s. may_carry s (has_point points i)) (sort_at rows i)
      ∙ may (row_at rows i) (has_point points i) parts.1 (free i) (needed.no_others i parts.0)

  few : next ≤ length (carriers rows points)
  few =
      let e = numbers_are.next_is in
      let s = set_pass (λ a. may_carry a.1 (is_some (slice_index_or points a.0 None))) 0 flags (map sort_of rows)
      (carrying.many ∙ sym (length-map rows sort_of))
      (λ i j is h. subst (λ n. may_carry (get_or (map sort_of rows) i sort.assignment) (has_point points n) ≡ true) (sym (let k : j ≡ i = omega arith in k))
      (passes i h)) in
      omega arith

  pub counters : AreCounters rows points next numbers
  counters = record {
    many = numbers_are.many ∙ carrying.many;
    below = λ n c h. (numbers_are.within n c h).1;
    apart = numbers_are.apart;
    told = λ n h. told rows points marks flags next numbers are needed carrying numbers_are n (inside marks needed.many n (needed.pointed n h)) (needed.pointed n h);
    few = few;
  }
