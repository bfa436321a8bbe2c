-- How often a number stands in a list.
use Rattle.std.specs.Prelude.{◌≡◌, refl, ℕ, ◌+◌, ◌==◌, Bool, true, false, cond, List, [], ◌∷◌, ◌++◌, length, filter}
use Rattle.circuit_run.specs.Lists.{how_many}
use Rattle.std.proofs.Common.{sym, ◌∙◌, ap, arith, inl, inr}
use Rattle.std.proofs.lemmas.Bool.{eq-eqb}
use Rattle.std.proofs.lemmas.Bool.Decides.{eqb_tells}

pub length_pick : {X : Type 0} (b : Bool) (x : X) (xs : List X) → length (cond b (x ∷ xs) xs) ≡ cond b 1 0 + length xs
length_pick true x xs = omega arith
length_pick false x xs = omega arith

-- one number more
pub how_many_more : (k n : ℕ) (ns : List ℕ) → how_many k (n ∷ ns) ≡ cond (n == k) 1 0 + how_many k ns
how_many_more k n ns = length_pick (n == k) n (filter (λ m. m == k) ns)

assoc : (a b c : ℕ) → a + (b + c) ≡ a + b + c
assoc a b c = omega arith

pub how_many_joined : (k : ℕ) (xs ys : List ℕ) → how_many k (xs ++ ys) ≡ how_many k xs + how_many k ys
how_many_joined k [] ys = omega arith
how_many_joined k (x ∷ xs) ys =
    how_many_more k x (xs ++ ys)
    ∙ ap (λ n. cond (x == k) 1 0 + n) (how_many_joined k xs ys)
    ∙ assoc (cond (x == k) 1 0) (how_many k xs) (how_many k ys)
    ∙ ap (λ n. n + how_many k ys) (sym (how_many_more k x xs))

pub zero_plus : (a : ℕ) → 0 + a ≡ a
zero_plus a = omega arith

-- the number itself, and another
pub of_same : (k : ℕ) (ns : List ℕ) → how_many k (k ∷ ns) ≡ 1 + how_many k ns
of_same k ns = how_many_more k k ns ∙ ap (λ b. cond b 1 0 + how_many k ns) (eq-eqb k k refl)

pub of_other : (k n : ℕ) (ns : List ℕ) → (n ≡ k → ⊥) → how_many k (n ∷ ns) ≡ how_many k ns
of_other k n ns differ = how_many_more k n ns ∙ elim (eqb_tells n k) as (λ _. cond (n == k) 1 0 + how_many k ns ≡ how_many k ns) [
  | inl h ↦ absurd (differ h.1)
  | inr h ↦ ap (λ b. cond b 1 0 + how_many k ns) h.0 ∙ zero_plus (how_many k ns)
]

-- notes in the middle that don't have it
pub skip_middle : (k a : ℕ) (xs ys : List ℕ) → how_many k xs ≡ 0 → how_many k (a ∷ xs ++ ys) ≡ how_many k (a ∷ ys)
skip_middle k a xs ys none =
    how_many_more k a (xs ++ ys)
    ∙ ap (λ n. cond (a == k) 1 0 + n) (how_many_joined k xs ys ∙ ap (λ n. n + how_many k ys) none ∙ zero_plus (how_many k ys))
    ∙ sym (how_many_more k a ys)
