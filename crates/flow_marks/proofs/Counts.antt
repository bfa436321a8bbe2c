-- Counting the words of a column that are in a set.
use Rattle.std.proofs.Common.{◌≡◌, ◌≢◌, ℕ, zero, suc, ◌+◌, ◌<◌, ◌≤◌, Bool, true, false, refl, sym, subst, inl, inr, arith}
use Rattle.std.specs.Prelude.{if◌then◌else◌}
use Rattle.std.proofs.lemmas.Bool.{cases_eq}
use Rattle.flow_marks.specs.Sets.{marked}

pub marked_same : (f g : ℕ → Bool) (n : ℕ) → ((w : ℕ) → w < n → f w ≡ g w) → marked f n ≡ marked g n
marked_same f g zero h = refl
marked_same f g (suc n) h = rw (h n (omega arith), marked_same f g n (λ w l. h w (omega arith))) refl

-- one more is in the set
pub marked_more : (f g : ℕ → Bool) (n w : ℕ) → w < n → f w ≡ false → g w ≡ true → ((u : ℕ) → u < n → u ≢ w → f u ≡ g u) → marked g n ≡ marked f n + 1
marked_more f g zero w l a b h = absurd (omega arith)
marked_more f g (suc n) w l a b h = elim (cases_eq w n) [
  | inl e ↦ (let s : marked f n ≡ marked g n = marked_same f g n (λ u m. h u (omega arith) (λ q. let z : w ≡ n = e in omega arith)) in
      let x : f n ≡ false = subst (λ u. f u ≡ false) e a in
      let y : g n ≡ true = subst (λ u. g u ≡ true) e b in
      rw (x, y) (omega arith))
  | inr e ↦ (let r : marked g n ≡ marked f n + 1 = marked_more f g n w (omega arith) a b (λ u m. h u (omega arith)) in
      rw (h n (omega arith) (λ q. e (sym q))) (omega arith))
]

pub marked_most : (f : ℕ → Bool) (n : ℕ) → marked f n ≤ n
marked_most f zero = omega arith
marked_most f (suc n) = go (f n) (marked_most f n)
  where
    go : (b : Bool) → marked f n ≤ n → (if b then 1 else 0) + marked f n ≤ suc n
    go true h = omega arith
    go false h = omega arith

-- where one isn't in the set, not all are
pub marked_less : (f : ℕ → Bool) (n w : ℕ) → w < n → f w ≡ false → marked f n < n
marked_less f zero w l a = absurd (omega arith)
marked_less f (suc n) w l a = elim (cases_eq w n) [
  | inl e ↦ (let x : f n ≡ false = subst (λ u. f u ≡ false) e a in rw x (omega (arith, marked_most f n)))
  | inr e ↦ go (f n) (marked_less f n w (omega arith) a)
]
  where
    go : (b : Bool) → marked f n < n → (if b then 1 else 0) + marked f n < suc n
    go true h = omega arith
    go false h = omega arith

-- the count tells whether any is
pub marked_some : (f : ℕ → Bool) (n w : ℕ) → w < n → f w ≡ true → 0 < marked f n
marked_some f zero w l a = absurd (omega arith)
marked_some f (suc n) w l a = elim (cases_eq w n) [
  | inl e ↦ (let x : f n ≡ true = subst (λ u. f u ≡ true) e a in rw x (omega arith))
  | inr e ↦ (let r : 0 < marked f n = marked_some f n w (omega arith) a in omega arith)
]

pub marked_word : (f : ℕ → Bool) (n : ℕ) → 0 < marked f n → (w : ℕ) × (w < n) × (f w ≡ true)
marked_word f zero h = absurd (omega arith)
marked_word f (suc n) h = go (f n) refl h (marked_word f n)
  where
    go : (b : Bool) → f n ≡ b → 0 < (if b then 1 else 0) + marked f n → (0 < marked f n → (w : ℕ) × (w < n) × (f w ≡ true))
        → (w : ℕ) × (w < suc n) × (f w ≡ true)
    go true e h rest = (n, omega arith, e)
    go false e h rest = let z : 0 < marked f n = omega arith in let r : (w : ℕ) × (w < n) × (f w ≡ true) = rest z in let l : r.0 < n = r.1 in (
      r.0,
      omega
          arith,
      r.2,
    )

-- where all are in the set, the count is that of all, and the other way round
pub marked_all : (f : ℕ → Bool) (n : ℕ) → ((w : ℕ) → w < n → f w ≡ true) → marked f n ≡ n
marked_all f zero h = refl
marked_all f (suc n) h = rw (h n (omega arith), marked_all f n (λ w l. h w (omega arith))) (omega arith)

pub all_marked : (f : ℕ → Bool) (n w : ℕ) → marked f n ≡ n → w < n → f w ≡ true
all_marked f n w e l = go (f w) refl
  where
    go : (b : Bool) → f w ≡ b → f w ≡ true
    go true h = h
    go false h = absurd (omega (arith, e, marked_less f n w l h))
