-- Toggle entries by their places: by variable, then word, then bit.
use Rattle.std.proofs.Common.{◌≡◌, ◌∙◌, sym, ap, subst, refl, ℕ, List, ◌<◌, ◌≤◌, ◌⊎◌, inl, inr, length, arith}
use Rattle.std.specs.Prelude.{AllPairs}
use Rattle.std.specs.Ordering.{nat_cmp, ordering_then}
use Rattle.std.specs.declared.cmp.Ordering.{Ordering}
use Rattle.std.specs.declared.cmp.Ordering.TheVariants.{Less, Equal, Greater}
use Rattle.std.specs.Cmp.{nat_cmp_is}
use Rattle.std.proofs.lemmas.Bool.{cases_order, cases_eq}
use Rattle.design_tree.specs.declared.instrumented.ToggleEntry.{ToggleEntry}
use Rattle.design_meaning.specs.Names.{IsBefore}
use Rattle.design_meaning.specs.Valid.{toggle_place}
use Rattle.cycle_parts.specs.Toggles.{AreOfOneWord, entry_at, no_entry}

less_cmp : (x y : ℕ) → x < y → nat_cmp x y ≡ Less
less_cmp x y lt = sym (nat_cmp_is x y Less lt)

same_cmp : (x y : ℕ) → x ≡ y → nat_cmp x y ≡ Equal
same_cmp x y e = sym (nat_cmp_is x y Equal e)

more_cmp : (x y : ℕ) → y < x → nat_cmp x y ≡ Greater
more_cmp x y lt = sym (nat_cmp_is x y Greater lt)

-- by the first number, or by the others where the first ones are equal
pub first_or_rest : (x y : ℕ) (rest : Ordering) → ordering_then (nat_cmp x y) rest ≡ Less → (x < y) ⊎ ((x ≡ y) × (rest ≡ Less))
first_or_rest x y rest h = elim (cases_order x y) [
  | inl e ↦ inr (e, sym (ap (λ o. ordering_then o rest) (same_cmp x y e)) ∙ h)
  | inr o ↦ elim o [
    | inl less ↦ inl less
    | inr more ↦ absurd (never (sym (ap (λ o. ordering_then o rest) (more_cmp x y more)) ∙ h))
  ]
]
  where
    never : Greater ≡ Less → ⊥
    never e = cc e

-- a place stands before another by its variable, or in one variable by its word, or in one word
record IsNotPast (a b : ToggleEntry) : Type 0 where
  pub vars : a.var ≤ b.var
  pub words : a.var ≡ b.var → a.word ≤ b.word

not_past : (a b : ToggleEntry) → IsBefore (toggle_place a) (toggle_place b) → IsNotPast a b
not_past a b h = elim (first_or_rest a.var b.var _ h) [
  | inl less ↦ record { vars = omega (arith, less); words = λ e. absurd (omega (arith, e, less)) }
  | inr r ↦ elim (first_or_rest a.word b.word _ r.1) [
    | inl less ↦ record { vars = omega (arith, r.0); words = λ e. omega (arith, less) }
    | inr q ↦ record { vars = omega (arith, r.0); words = λ e. omega (arith, q.0) }
  ]
]

-- what stands between two entries of one word is of that word
pub between : (a b c : ToggleEntry) → IsBefore (toggle_place a) (toggle_place b) → IsBefore (toggle_place b) (toggle_place c) → AreOfOneWord a c
    → AreOfOneWord a b
between a b c h k same = record { var = var; word = omega (arith, ab.words var, bc.words (sym var ∙ same.var), same.word) }
  where
    ab : IsNotPast a b
    ab = not_past a b h

    bc : IsNotPast b c
    bc = not_past b c k

    var : a.var ≡ b.var
    var = omega (arith, ab.vars, bc.vars, same.var)

-- in one word the bits ascend
never_less : Equal ≡ Less → ⊥
never_less e = cc e

pub by_bits : (a b : ToggleEntry) → IsBefore (toggle_place a) (toggle_place b) → AreOfOneWord a b → a.bit < b.bit
by_bits a b h same = elim (first_or_rest a.var b.var _ h) [
  | inl less ↦ absurd (omega (arith, less, same.var))
  | inr r ↦ elim (first_or_rest a.word b.word _ r.1) [
    | inl less ↦ absurd (omega (arith, less, same.word))
    | inr q ↦ elim (first_or_rest a.bit b.bit _ q.1) [
      | inl less ↦ less
      | inr e ↦ absurd (never_less e.1)
    ]
  ]
]

pub all_between : (es : List ToggleEntry) → AllPairs (λ a b. IsBefore (toggle_place a) (toggle_place b)) es → (at last : ℕ) → last < length es
    → AreOfOneWord (entry_at es at) (entry_at es last) → (k : ℕ) → at ≤ k → k ≤ last → AreOfOneWord (entry_at es at) (entry_at es k)
all_between es ascend at last within same k from upto = elim (cases_eq at k) [
  | inl e ↦ subst (λ k. AreOfOneWord (entry_at es at) (entry_at es k)) e (record { var = refl; word = refl })
  | inr above ↦ elim (cases_eq k last) [
    | inl e ↦ subst (λ k. AreOfOneWord (entry_at es at) (entry_at es k)) (sym e) same
    | inr below ↦ between (entry_at es at) (entry_at es k) (entry_at es last)
        (ascend at k no_entry (omega (arith, from, above)) (omega (arith, upto, within)))
        (ascend k last no_entry (omega (arith, upto, below)) within) same
  ]
]

-- variables ascend
pub vars_ascend : (es : List ToggleEntry) → AllPairs (λ a b. IsBefore (toggle_place a) (toggle_place b)) es → (i j : ℕ) → i ≤ j → j < length es
    → (entry_at es i).var ≤ (entry_at es j).var
vars_ascend es ascend i j le lt = elim (cases_eq i j) [
  | inl e ↦ subst (λ j. (entry_at es i).var ≤ (entry_at es j).var) e (omega arith)
  | inr ne ↦ (not_past (entry_at es i) (entry_at es j) (ascend i j no_entry (omega (arith, le, ne)) lt)).vars
]
