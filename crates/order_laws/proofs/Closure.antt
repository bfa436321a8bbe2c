-- Ways along edges, told by the vertices that they may go through.
use Rattle.std.proofs.Common.{ℕ, zero, suc, ◌<◌, ◌⊎◌, inl, inr, List, [], ◌∷◌, ◌++◌, subst, arith}
use Rattle.std.proofs.lemmas.Bool.{cases_order}
use Rattle.order_laws.proofs.Decisions.{both, either}

module _ (Edge : ℕ → ℕ → Type 0) where
  -- edges from p over each of the list to the end
  abbrev pub Route : ℕ → List ℕ → ℕ → Type 0
  Route p [] end = Edge p end
  Route p (q ∷ qs) end = Edge p q × Route q qs end

  -- p leads to q through vertices below n, each of them once at most
  abbrev pub Through : ℕ → ℕ → ℕ → Type 0
  Through zero p q = Edge p q
  Through (suc n) p q = Through n p q ⊎ (Through n p n × Through n n q)

  pub through_decided : ((p q : ℕ) → Dec (Edge p q)) → (n p q : ℕ) → Dec (Through n p q)
  through_decided decides zero p q = decides p q
  through_decided decides (suc n) p q = either (through_decided decides n p q) (both (through_decided decides n p n) (through_decided decides n n q))

  pub edge_through : (n p q : ℕ) → Edge p q → Through n p q
  edge_through zero p q e = e
  edge_through (suc n) p q e = inl (edge_through n p q e)

  -- ---- one way after another

  into : (n p : ℕ) → Through (suc n) p n → Through n p n
  into n p (inl a) = a
  into n p (inr a) = a.0

  out_of : (n q : ℕ) → Through (suc n) n q → Through n n q
  out_of n q (inl a) = a
  out_of n q (inr a) = a.1

  more : (n p k q : ℕ) → ((x y : ℕ) → Through n x k → Through n k y → Through n x y)
      → Through (suc n) p k → Through (suc n) k q → Through (suc n) p q
  more n p k q join (inl a) (inl b) = inl (join p q a b)
  more n p k q join (inl a) (inr b) = inr (join p n a b.0, b.1)
  more n p k q join (inr a) (inl b) = inr (a.0, join n q a.1 b)
  more n p k q join (inr a) (inr b) = inr (a.0, b.1)

  pub joined : (n p k q : ℕ) → k < n → Through n p k → Through n k q → Through n p q
  joined zero p k q lt a b = absurd (omega (arith, lt))
  joined (suc n) p k q lt a b = elim (cases_order k n) [
    | inl e ↦ inr (into n p (subst (λ x. Through (suc n) p x) e a), out_of n q (subst (λ x. Through (suc n) x q) e b))
    | inr o ↦ elim o [
      | inl less ↦ more n p k q (λ x y. joined n x k y less) a b
      | inr past ↦ absurd (omega (arith, lt, past))
    ]
  ]

  -- ---- ways and lists of vertices

  appended : (p k q : ℕ) (front back : List ℕ) → Route p front k → Route k back q → Route p (front ++ k ∷ back) q
  appended p k q [] back a b = (a, b)
  appended p k q (x ∷ xs) back a b = (a.0, appended x k q xs back a.1 b)

  pub routed : (n p q : ℕ) → Through n p q → (between : List ℕ) × Route p between q
  routed zero p q a = ([], a)
  routed (suc n) p q (inl a) = routed n p q a
  routed (suc n) p q (inr a) =
      let x : (between : List ℕ) × Route p between n = routed n p n a.0 in
      let y : (between : List ℕ) × Route n between q = routed n n q a.1 in
      (x.0 ++ n ∷ y.0, appended p n q x.0 y.0 x.1 y.1)

  pub through : (n : ℕ) → ((p q : ℕ) → Edge p q → q < n) → (p : ℕ) (between : List ℕ) (q : ℕ) → Route p between q → Through n p q
  through n within p [] q r = edge_through n p q r
  through n within p (x ∷ xs) q r = joined n p x q (within p x r.0) (edge_through n p x r.0) (through n within x xs q r.1)
