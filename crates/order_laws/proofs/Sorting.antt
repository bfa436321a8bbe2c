-- Numbers sorted by a relation that is decided, leads on, and has no circle.
use Rattle.std.proofs.Common.{◌≡◌, ◌≢◌, ℕ, zero, suc, ◌<◌, ◌≤◌, ◌⊎◌, inl, inr, List, [], ◌∷◌, sym, subst, refl, arith}
use Rattle.std.proofs.lemmas.Bool.{cases_lt}
use Rattle.std.proofs.lemmas.List.Elements.{All-from_recursion}
use Rattle.std.proofs.lemmas.List.Kept.{AllPairs-cons}
use Rattle.std.specs.Prelude.{All, AllPairs, Contains}
use Rattle.std.specs.List.{AllByRecursion}

-- ---- lists

all_both : {X : Type 0} {P Q R : X → Type 0} → ((x : X) → P x → Q x → R x) → (xs : List X) → AllByRecursion P xs → AllByRecursion Q xs → AllByRecursion R xs
all_both f [] h k = tt
all_both f (x ∷ xs) h k = (f x h.0 k.0, all_both f xs h.1 k.1)

abbrev Among : ℕ → List ℕ → Type 0
Among p [] = ⊥
Among p (x ∷ xs) = (x ≡ p) ⊎ Among p xs

contained : (p : ℕ) (xs : List ℕ) → Among p xs → Contains xs p
contained p [] h = absurd h
contained p (x ∷ xs) (inl e) = (zero, omega arith, e)
contained p (x ∷ xs) (inr h) = let c : Contains xs p = contained p xs h in (suc c.0, omega (arith, c.1), c.2)

abbrev Pairwise : (ℕ → ℕ → Type 0) → List ℕ → Type 0
Pairwise R [] = Unit {0}
Pairwise R (x ∷ xs) = AllByRecursion (R x) xs × Pairwise R xs

pairs : (R : ℕ → ℕ → Type 0) (xs : List ℕ) → Pairwise R xs → AllPairs R xs
pairs R [] h = λ i j d a b. absurd (omega (arith, b))
pairs R (x ∷ xs) h = AllPairs-cons R x xs (All-from_recursion (R x) xs h.0) (pairs R xs h.1)

abbrev pick : {A : Type 0} → Dec A → List ℕ → List ℕ → List ℕ
pick (yes a) xs ys = xs
pick (no n) xs ys = ys

-- p may stand before q
pub record IsAhead (Leads : ℕ → ℕ → Type 0) (p q : ℕ) : Type 0 where
  pub apart : p ≢ q
  pub no_way : Leads q p → ⊥

module _ (Leads : ℕ → ℕ → Type 0) (decides : (p q : ℕ) → Dec (Leads p q)) where
  -- the number before the first that it leads to
  abbrev placed : ℕ → List ℕ → List ℕ
  placed v [] = v ∷ []
  placed v (x ∷ xs) = pick (decides v x) (v ∷ x ∷ xs) (x ∷ placed v xs)

  all_placed : (P : ℕ → Type 0) (v : ℕ) (xs : List ℕ) → P v → AllByRecursion P xs → AllByRecursion P (placed v xs)
  all_placed P v [] hv h = (hv, tt)
  all_placed P v (x ∷ xs) hv h = elim (decides v x) as (λ c. AllByRecursion P (pick c (v ∷ x ∷ xs) (x ∷ placed v xs))) [
    | yes b ↦ (hv, h)
    | no b ↦ (h.0, all_placed P v xs hv h.1)
  ]

  itself : (v : ℕ) (xs : List ℕ) → Among v (placed v xs)
  itself v [] = inl refl
  itself v (x ∷ xs) = elim (decides v x) as (λ c. Among v (pick c (v ∷ x ∷ xs) (x ∷ placed v xs))) [
    | yes b ↦ inl refl
    | no b ↦ inr (itself v xs)
  ]

  still : (p v : ℕ) (xs : List ℕ) → Among p xs → Among p (placed v xs)
  still p v [] h = absurd h
  still p v (x ∷ xs) h = elim (decides v x) as (λ c. Among p (pick c (v ∷ x ∷ xs) (x ∷ placed v xs))) [
    | yes b ↦ inr h
    | no b ↦ elim h [
      | inl e ↦ inl e
      | inr rest ↦ inr (still p v xs rest)
    ]
  ]

  module _ (n : ℕ) (joined : (p k q : ℕ) → k < n → Leads p k → Leads k q → Leads p q) (no_circle : (p : ℕ) → Leads p p → ⊥) where
    sorted : (v : ℕ) (xs : List ℕ) → v < n → AllByRecursion (λ x. v ≢ x) xs → Pairwise (IsAhead Leads) xs → Pairwise (IsAhead Leads) (placed v xs)
    sorted v [] lt fresh s = (tt, tt)
    sorted v (x ∷ xs) lt fresh s = elim (decides v x) as (λ c. Pairwise (IsAhead Leads) (pick c (v ∷ x ∷ xs) (x ∷ placed v xs))) [
      | yes b ↦ (
        (
          record { apart = fresh.0; no_way = λ h. no_circle x (joined x v x lt h b) },
          all_both (λ y f a. record { apart = f; no_way = λ h. a.no_way (joined y v x lt h b) }) xs fresh.1 s.0,
        ),
        s,
      )
      | no b ↦ (all_placed (IsAhead Leads x) v xs (record { apart = λ e. fresh.0 (sym e); no_way = b }) s.0, sorted v xs lt fresh.1 s.1)
    ]

    module _ (Chosen : ℕ → Type 0) (chooses : (p : ℕ) → Dec (Chosen p)) where
      -- the chosen numbers below m, each once, and none leads to one before it
      record IsSorted (m : ℕ) (xs : List ℕ) : Type 0 where
        pub all : (p : ℕ) → p < m → Chosen p → Among p xs
        pub only : AllByRecursion (λ p. (p < m) × Chosen p) xs
        pub ahead : Pairwise (IsAhead Leads) xs

      one_more : (m : ℕ) → m < n → (lower : List ℕ) → IsSorted m lower → (xs : List ℕ) × IsSorted (suc m) xs
      one_more m lt lower s = elim (chooses m) [
        | yes c ↦ (
          placed m lower,
          record {
            all = λ p below h. elim (cases_lt p m) [
              | inl less ↦ still p m lower (s.all p less h)
              | inr past ↦ let e : m ≡ p = omega (arith, below, past) in subst (λ x. Among x (placed m lower)) e (itself m lower)
            ];
            only = all_placed (λ p. (p < suc m) × Chosen p) m lower (omega arith, c) wider;
            ahead = sorted m lower lt (all_both (λ x a b. λ e. omega (arith, a.0, e)) lower s.only s.only) s.ahead;
          },
        )
        | no c ↦ (
          lower,
          record {
            all = λ p below h. elim (cases_lt p m) [
              | inl less ↦ s.all p less h
              | inr past ↦ let e : p ≡ m = omega (arith, below, past) in absurd (c (subst Chosen e h))
            ];
            only = wider;
            ahead = s.ahead;
          },
        )
      ]
        where
          wider : AllByRecursion (λ p. (p < suc m) × Chosen p) lower
          wider = all_both (λ p a b. (omega (arith, a.0), a.1)) lower s.only s.only

      upto : (m : ℕ) → m ≤ n → (xs : List ℕ) × IsSorted m xs
      upto zero le = ([], record { all = λ p lt c. absurd (omega (arith, lt)); only = tt; ahead = tt })
      upto (suc m) le = let lower : (xs : List ℕ) × IsSorted m xs = upto m (omega (arith, le)) in one_more m (omega (arith, le)) lower.0 lower.1

      -- all chosen numbers below n, each once, and none leads to one before it
      pub order : (xs : List ℕ) × ((p : ℕ) → p < n → Chosen p → Contains xs p) × All Chosen xs × AllPairs (IsAhead Leads) xs
      order =
          let s : (xs : List ℕ) × IsSorted n xs = upto n (omega arith) in (
            s.0,
            λ p lt c. contained p s.0 (s.1.all p lt c),
            All-from_recursion Chosen s.0 (all_both (λ x a b. a.1) s.0 s.1.only s.1.only),
            pairs (IsAhead Leads) s.0 s.1.ahead,
          )
