-- Counters that are raised one after the other.
use Rattle.std.proofs.Common.{◌≡◌, ◌∙◌, sym, ap, subst, refl, ℕ, zero, suc, ◌+◌, ◌<◌, ◌≤◌, ◌^◌, ◌==◌, inl, inr, Bool, true, false, cond, List, []}
use Rattle.std.proofs.Common.{◌∷◌, ◌++◌, filter, length, take, arith}
use Rattle.std.specs.Prelude.{slice_index, slice_index_or, slice_set}
use Rattle.std.proofs.lemmas.Bool.{cases_eq, eq-eqb, ne_eqb, cases_lt as cases_lt_or}
use Rattle.std.proofs.lemmas.List.{get_or-set_same, get_or-set_other, length-set, take_more, length-take-le}
use Rattle.circuit_run.specs.Lists.{how_many}
use Rattle.design_meaning.specs.Counters.{HasCounted}
use Rattle.design_meaning.proofs.MachineCounts.{how_many_both}

abbrev one_if : Bool → ℕ
one_if c = cond c 1 0

how_many_one : (k c : ℕ) → how_many k (c ∷ []) ≡ one_if (c == k)
how_many_one k c = go (c == k)
  where
    go : (b : Bool) → length (cond b (c ∷ []) []) ≡ one_if b
    go true = refl
    go false = refl

pub nothing_counted : (counts : List ℕ) → HasCounted counts [] counts
nothing_counted counts = record { as_many = refl; each = λ k lt. omega arith }

pub counted_both : (a b c r s : List ℕ) → HasCounted a r b → HasCounted b s c → HasCounted a (r ++ s) c
counted_both a b c r s h i = record {
  as_many = i.as_many ∙ h.as_many;
  each = λ k lt. omega (arith, h.each k lt, i.each k (omega (arith, lt, h.as_many)), how_many_both k r s);
}

pub counted_one : (a : List ℕ) (c : ℕ) → c < length a → HasCounted a (c ∷ []) (slice_set a c (slice_index a c + 1))
counted_one a c here = record {
  as_many = length-set a c (slice_index a c + 1);
  each = λ k lt. elim (cases_eq c k) [
    | inl e ↦ subst (λ k. slice_index (slice_set a c (slice_index a c + 1)) k ≡ slice_index a k + how_many k (c ∷ [])) e
        (get_or-set_same a c (slice_index a c + 1) 0 here ∙ ap (λ n. slice_index a c + n) (sym (how_many_one c c ∙ ap one_if (eq-eqb c c refl))))
    | inr ne ↦ get_or-set_other a c k (slice_index a c + 1) 0 (λ e. ne (sym e)) ∙ plus_none (slice_index a k) (how_many k (c ∷ [])) (how_many_one k c
        ∙ ap one_if (ne_eqb c k ne))
  ];
}
  where
    plus_none : (a b : ℕ) → b ≡ 0 → a ≡ a + b
    plus_none a b h = omega (arith, h)

pub counted_past : (a : List ℕ) (c : ℕ) → length a ≤ c → HasCounted a (c ∷ []) a
counted_past a c past = record {
  as_many = refl;
  each = λ k lt. omega (arith, how_many_one k c, ap one_if (ne_eqb c k (λ e. omega (arith, e, past, lt))));
}

how_many_least : (k : ℕ) (xs : List ℕ) → how_many k xs ≤ length xs
how_many_least k [] = omega arith
how_many_least k (x ∷ xs) = go (x == k) (how_many_least k xs)
  where
    go : (b : Bool) → how_many k xs ≤ length xs → length (cond b (x ∷ filter (λ n. n == k) xs) (filter (λ n. n == k) xs)) ≤ suc (length xs)
    go true h = omega (arith, h)
    go false h = omega (arith, h)

past_end : (xs : List ℕ) (k : ℕ) → length xs ≤ k → slice_index xs k ≡ 0
past_end [] k h = refl
past_end (x ∷ xs) zero h = absurd (omega (arith, h))
past_end (x ∷ xs) (suc k) h = past_end xs k (omega (arith, h))

-- no count has grown by more than was raised
pub counted_least : (a r b : List ℕ) (k : ℕ) → HasCounted a r b → slice_index b k ≤ slice_index a k + length r
counted_least a r b k h = elim (cases_lt_or k (length a)) [
  | inl lt ↦ omega (arith, h.each k lt, how_many_least k r)
  | inr past ↦ omega (arith, past_end b k (omega (arith, past, h.as_many)))
]

-- so many of a list have been raised, with one more
pub counted_next : (a b c : List ℕ) (rs : List ℕ) (i x : ℕ) → i < length rs → x ≡ slice_index_or rs i x → HasCounted a (take i rs) b
    → HasCounted b (x ∷ []) c → HasCounted a (take (i + 1) rs) c
counted_next a b c rs i x lt e h j = subst (λ r. HasCounted a r c) (sym (take_more rs i x lt
    ∙ ap (λ y. take i rs ++ y ∷ []) (sym e))) (counted_both a b c (take i rs) (x ∷ []) h j)

pub room_for_one : (a b rs : List ℕ) (i k : ℕ) → ((k : ℕ) → slice_index a k + length rs < 2 ^ 64) → i < length rs → HasCounted a (take i rs) b
    → slice_index b k + 1 < 2 ^ 64
room_for_one a b rs i k fit lt h = omega (arith, fit k, lt, counted_least a (take i rs) b k h, length-take-le i rs (omega (arith, lt)))
