-- A design has no more toggle entries than bits.
use Rattle.std.proofs.Common.{◌≡◌, ◌≢◌, ap, subst, refl, ℕ, zero, suc, ◌+◌, ◌*◌, ◌<◌, ◌≤◌, inl, inr, true, false, List, [], ◌∷◌, length, map}
use Rattle.std.proofs.Common.{take, arith}
use Rattle.std.specs.Prelude.{All, AllPairs, slice_index_or, nat_lt}
use Rattle.std.specs.declared.cmp.Ordering.TheVariants.{Less, Equal}
use Rattle.std.proofs.Math.Nat.{mul-le-mul_left}
use Rattle.cov_types.specs.declared.var.Var.{Var}
use Rattle.design_tree.specs.declared.design.Design.{Design}
use Rattle.design_tree.specs.declared.instrumented.ToggleEntry.{ToggleEntry}
use Rattle.design_tree.specs.declared.instrumented.Instrumented.{Instrumented}
use Rattle.circuit_run.specs.Lists.{total}
use Rattle.circuit_run.specs.States.{no_var}
use Rattle.design_meaning.specs.States.{IsBitOf, var_of}
use Rattle.design_meaning.specs.Counters.{toggle_bit}
use Rattle.design_meaning.specs.Names.{IsBefore}
use Rattle.design_meaning.specs.Valid.{AreToggles, toggle_place, state_bits}
use Rattle.cycle_parts.specs.Toggles.{entry_at, no_entry}
use Rattle.cycle_parts.proofs.EntryOrder.{first_or_rest}

-- ---- the number of a bit among all

abbrev bits_of : Var → ℕ
bits_of v = v.width * v.words

abbrev before : List Var → ℕ → ℕ
before vars zero = 0
before [] (suc n) = 0
before (v ∷ vars) (suc n) = bits_of v + before vars n

abbrev at : List Var → ℕ → Var
at vars v = slice_index_or vars v no_var

none : (vars : List Var) → before vars 0 ≡ 0
none [] = refl
none (v ∷ vars) = refl

one_more : (vars : List Var) (n : ℕ) → n < length vars → before vars (suc n) ≡ before vars n + bits_of (slice_index_or vars n no_var)
one_more [] n lt = absurd (omega (arith, lt))
one_more (v ∷ vars) zero lt = omega (arith, none vars)
one_more (v ∷ vars) (suc n) lt = omega (arith, one_more vars n (omega (arith, lt)))

grows : (vars : List Var) (m n : ℕ) → m ≤ n → before vars m ≤ before vars n
grows vars zero n le = omega (arith, none vars)
grows [] (suc m) n le = omega arith
grows (v ∷ vars) (suc m) zero le = absurd (omega (arith, le))
grows (v ∷ vars) (suc m) (suc n) le = omega (arith, grows vars m n (omega (arith, le)))

within : (vars : List Var) (n : ℕ) → before vars n ≤ total (map (λ v. v.width * v.words) vars)
within vars zero = omega (arith, none vars)
within [] (suc n) = omega arith
within (v ∷ vars) (suc n) = omega (arith, within vars n)

abbrev number : List Var → ToggleEntry → ℕ
number vars t = before vars t.var + (slice_index_or vars t.var no_var).width * t.word + t.bit

next_word : (i n : ℕ) → i < n → i + 1 ≤ n
next_word i n lt = omega (arith, lt)

-- a word and all its bits come before the end of the words
row : (w i n : ℕ) → i < n → w * i + w ≤ w * n
row w i n lt = omega (arith, mul-le-mul_left w (next_word i n lt))

module _ (d : Design) where
  in_variable : (t : ToggleEntry) → IsBitOf d (toggle_bit t) → number d.vars t < before d.vars (suc t.var)
  in_variable t h =
      let v = var_of d t.var in
      omega (arith, one_more d.vars t.var h.of_variable, h.in_width, row v.width t.word v.words h.of_word)

  ascends : (a b : ToggleEntry) → IsBitOf d (toggle_bit a) → IsBitOf d (toggle_bit b) → IsBefore (toggle_place a) (toggle_place b)
      → number d.vars a < number d.vars b
  ascends a b ha hb h = elim (first_or_rest a.var b.var _ h) [
    | inl less ↦ omega (arith, in_variable a ha, grows d.vars (suc a.var) b.var (omega (arith, less)))
    | inr r ↦ elim (first_or_rest a.word b.word _ r.1) [
      | inl less ↦ in_words a b ha r.0 less
      | inr q ↦ elim (first_or_rest a.bit b.bit _ q.1) [
        | inl less ↦ in_bits a b r.0 q.0 less
        | inr z ↦ absurd (equal_less z.1)
      ]
    ]
  ]
    where
      equal_less : Equal ≡ Less → ⊥
      equal_less e = cc e

      in_words : (a b : ToggleEntry) → IsBitOf d (toggle_bit a) → a.var ≡ b.var → a.word < b.word → number d.vars a < number d.vars b
      in_words a b ha e less =
          let row_ends = row (var_of d a.var).width a.word b.word less in
          omega (arith, ha.in_width, ap (before d.vars) e, row_ends, ap (λ v. (var_of d v).width * b.word) e)

      in_bits : (a b : ToggleEntry) → a.var ≡ b.var → a.word ≡ b.word → a.bit < b.bit → number d.vars a < number d.vars b
      in_bits a b e f less = omega (arith, less, ap (before d.vars) e, ap (λ v. (var_of d v).width * b.word) e, ap (λ w. (var_of d a.var).width * w) f)

at_least : (x : Instrumented) → AreToggles x → (k : ℕ) → k < length x.toggles → k ≤ number x.design.vars (entry_at x.toggles k)
at_least x h zero lt = omega arith
at_least x h (suc k) lt =
    omega (
      arith,
      at_least x h k (omega (arith, lt)),
      ascends x.design (entry_at x.toggles k) (entry_at x.toggles (suc k)) (h.bits k no_entry (omega (arith, lt))) (h.bits (suc k) no_entry lt)
          (h.ascend k (suc k) no_entry (omega arith) lt),
    )

pub toggles_few : (x : Instrumented) → AreToggles x → length x.toggles ≤ state_bits x.design
toggles_few x h = by (length x.toggles) refl
  where
    by : (n : ℕ) → length x.toggles ≡ n → n ≤ state_bits x.design
    by zero e = omega arith
    by (suc n) e =
        let lt : n < length x.toggles = omega (arith, e) in
        let t : ToggleEntry = entry_at x.toggles n in
        omega (arith, at_least x h n lt, in_variable x.design t (h.bits n no_entry lt), within x.design.vars (suc t.var))
