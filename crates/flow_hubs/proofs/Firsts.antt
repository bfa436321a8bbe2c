-- Orders and circles of the first vertices of a graph are those of the relation for which it stands.
use Rattle.std.proofs.Common.{◌≡◌, ◌≢◌, ◌∙◌, sym, ap, subst, refl, ℕ, zero, suc, ◌<◌, ◌≤◌, arith, inl, inr, Bool, true, false, cond, List, [], ◌∷◌, ◌++◌}
use Rattle.std.proofs.Common.{length, get_or}
use Rattle.std.specs.Prelude.{All, AllPairs, Contains, filter, nat_lt}
use Rattle.std.proofs.lemmas.Bool.{cases_lt}
use Rattle.std.proofs.lemmas.List.{get_or_default}
use Rattle.std.proofs.lemmas.List.Elements.{filter_passes}
use Rattle.std.proofs.lemmas.List.Kept.{AllPairs-filter}
use Rattle.flow_graph.specs.Graph.{Graph, HasEdge, IsGraph, next_of}
use Rattle.flow_graph.specs.Graph as graph
use Rattle.flow_hubs.specs.Hubs.{Stands}
use Rattle.flow_hubs.specs.Kept.{first_of}

-- ---- what a filter keeps

still : {X : Type 0} (b : Bool) (y : X) (xs : List X) (x : X) → Contains xs x → Contains (cond b (y ∷ xs) xs) x
still true y xs x h = (suc h.0, omega (arith, h.1), h.2)
still false y xs x h = h

pub filter_at : {X : Type 0} (t : X → Bool) (xs : List X) (x : X) (k : ℕ) → k < length xs → get_or xs k x ≡ x → t x ≡ true → Contains (filter t xs) x
filter_at t [] x k lt g e = absurd (omega (arith, lt))
filter_at t (y ∷ xs) x zero lt g e =
    subst (λ b. Contains (cond b (y ∷ filter t xs) (filter t xs)) x) (sym (ap t g ∙ e)) (0, omega arith, g)
filter_at t (y ∷ xs) x (suc k) lt g e = still (t y) y (filter t xs) x (filter_at t xs x k (omega (arith, lt)) g e)

lt_true : (x n : ℕ) → x < n → nat_lt x n ≡ true
lt_true x n h = grind (arith, h)

lt_from : (x n : ℕ) → nat_lt x n ≡ true → x < n
lt_from x n h = grind (arith, h)

lt_false : (x n : ℕ) → n ≤ x → nat_lt x n ≡ false
lt_false x n h = grind (arith, h)

kept_one : (n x : ℕ) (xs : List ℕ) → x < n → first_of n (x ∷ xs) ≡ x ∷ first_of n xs
kept_one n x xs h = ap (λ b. cond b (x ∷ first_of n xs) (first_of n xs)) (lt_true x n h)

left_out : (n x : ℕ) (xs : List ℕ) → n ≤ x → first_of n (x ∷ xs) ≡ first_of n xs
left_out n x xs h = ap (λ b. cond b (x ∷ first_of n xs) (first_of n xs)) (lt_false x n h)

-- ---- relations

-- the relation leads from a vertex to the first of the list, from each to the next, and from the last to the end
abbrev pub Chain : (ℕ → ℕ → Type 0) → ℕ → List ℕ → ℕ → Type 0
Chain L p [] end = L p end
Chain L p (q ∷ qs) end = L p q × Chain L q qs end

abbrev pub IsCircleFrom : (ℕ → ℕ → Type 0) → ℕ → List ℕ → Type 0
IsCircleFrom L p [] = ⊥
IsCircleFrom L p (q ∷ qs) = (q ≡ p) × Chain L p qs p

-- each of the first n once, before all those to which it leads
pub record IsOrderOf (n : ℕ) (L : ℕ → ℕ → Type 0) (order : List ℕ) : Type 0 where
  pub all : (p : ℕ) → p < n → Contains order p
  pub only : All (λ p. p < n) order
  pub once : AllPairs (λ p q. p ≢ q) order
  pub forward : AllPairs (λ p q. L q p → ⊥) order
  pub apart : (p : ℕ) → L p p → ⊥

-- a circle that begins with the least vertex on any
pub record IsLeastOf (L : ℕ → ℕ → Type 0) (circle : List ℕ) : Type 0 where
  pub first : ℕ
  pub begins : IsCircleFrom L first circle
  pub least : (q : ℕ) → q < first → (other : List ℕ) → IsCircleFrom L q other → ⊥

module _ (n : ℕ) (L : ℕ → ℕ → Type 0) (g : Graph) (s : Stands n L g) where
  pub is_graph : IsGraph g
  is_graph i row lt k q inside =
      let same : get_or g i row ≡ next_of g i = get_or_default g i row [] lt in
      s.ends i (get_or (get_or g i row) k q) (
        k,
        subst (λ (r : List ℕ). k < length r) same inside,
        subst (λ (r : List ℕ). get_or r k (get_or (get_or g i row) k q) ≡ get_or (get_or g i row) k q) same
            (get_or_default (get_or g i row) k (get_or (get_or g i row) k q) q inside),
      )

  -- ---- an order

  module _ (order : List ℕ) (o : graph.IsOrder g order) where
    -- an edge leads to a later place
    up : (p q i j : ℕ) → i < length order → j < length order → get_or order i 0 ≡ p → get_or order j 0 ≡ q → HasEdge g p q → i < j
    up p q i j l m e f h = elim (cases_lt i j) [
      | inl less ↦ less
      | inr from ↦ elim (cases_lt j i) [
        | inl more ↦ absurd (o.forward j i 0 more l (subst (λ x. HasEdge g x (get_or order j 0)) (sym e) (subst (HasEdge g p) (sym f) h)))
        | inr to ↦ absurd (let same : i ≡ j = omega (arith, from, to) in
            o.apart p (subst (HasEdge g p) (sym f ∙ (ap (λ k. get_or order k 0) (sym same) ∙ e)) h))
      ]
    ]

    place_of : (p : ℕ) → p < length g → (i : ℕ) × (i < length order) × (get_or order i 0 ≡ p)
    place_of p lt = let c : Contains order p = o.all p lt in (c.0, c.1, get_or_default order c.0 0 p c.1 ∙ c.2)

    leads_up : (p q i j : ℕ) → i < length order → j < length order → get_or order i 0 ≡ p → get_or order j 0 ≡ q → L p q → i < j
    leads_up p q i j l m e f h = elim (s.way p q h) [
      | inl edge ↦ up p q i j l m e f edge
      | inr w ↦ (
          let k : (i : ℕ) × (i < length order) × (get_or order i 0 ≡ w.0) = place_of w.0 (s.ends p w.0 w.1) in
          let first : i < k.0 = up p w.0 i k.0 l k.1 e k.2 w.1 in
          let then : k.0 < j = up w.0 q k.0 j k.1 m k.2 f w.2 in
          omega (arith, first, then))
    ]

    forward : AllPairs (λ p q. L q p → ⊥) order
    forward i j e less lt h =
        let first : i < length order = omega (arith, less, lt) in
        let down : j < i = leads_up (get_or order j e) (get_or order i e) j i lt first (get_or_default order j 0 e lt) (get_or_default order i 0 e first) h in
        omega (arith, less, down)

    apart : (p : ℕ) → L p p → ⊥
    apart p h =
        let lt : p < length g = (let inside : (p < n) × (p < n) = s.inside p p h in omega (arith, inside.0, s.many)) in
        let i : (i : ℕ) × (i < length order) × (get_or order i 0 ≡ p) = place_of p lt in
        let again : i.0 < i.0 = leads_up p p i.0 i.0 i.1 i.1 i.2 i.2 h in
        omega (arith, again)

    pub order_of : IsOrderOf n L (first_of n order)
    order_of = record {
      all = λ p lt. (let c : Contains order p = o.all p (omega (arith, lt, s.many)) in filter_at (λ x. nat_lt x n) order p c.0 c.1 c.2 (lt_true p n lt));
      only = λ k e lt. lt_from (get_or (first_of n order) k e) n (filter_passes (λ x. nat_lt x n) order k e lt);
      once = AllPairs-filter (λ p q. p ≢ q) (λ x. nat_lt x n) order o.once;
      forward = AllPairs-filter (λ p q. L q p → ⊥) (λ x. nat_lt x n) order forward;
      apart = apart;
    }

  -- ---- a circle

  chain_push : (p : ℕ) (qs : List ℕ) (q end : ℕ) → graph.Chain g p qs q → HasEdge g q end → graph.Chain g p (qs ++ q ∷ []) end
  chain_push p [] q end c h = (c, h)
  chain_push p (x ∷ qs) q end c h = (c.0, chain_push x qs q end c.1 h)

  -- a circle that begins with a hub could begin with a lesser vertex
  first_below : (p : ℕ) (circle : List ℕ) → graph.IsCircleFrom g p circle → ((q : ℕ) → q < p → graph.IsOnCircle g q → ⊥) → p < n
  first_below p [] c least = absurd c
  first_below p (x ∷ []) c least = elim (cases_lt p n) [
    | inl lt ↦ lt
    | inr from ↦ absurd (let lt : p < n = s.back p p from c.1 in omega (arith, lt, from))
  ]
  first_below p (x ∷ q ∷ qs) c least = elim (cases_lt p n) [
    | inl lt ↦ lt
    | inr from ↦ absurd (
        let lt : q < n = s.back p q from c.1.0 in
        least q (omega (arith, lt, from)) (q ∷ (qs ++ p ∷ []), (refl, chain_push q qs p q c.1.1 c.1.0)))
  ]

  shrink : (p : ℕ) (qs : List ℕ) (end : ℕ) → p < n → end < n → graph.Chain g p qs end → Chain L p (first_of n qs) end
  shrink p [] end pl el c = s.inner p end pl el c
  shrink p (q ∷ []) end pl el c = elim (cases_lt q n) [
    | inl lt ↦ subst (λ xs. Chain L p xs end) (sym (kept_one n q [] lt)) (s.inner p q pl lt c.0, s.inner q end lt el c.1)
    | inr from ↦ subst (λ xs. Chain L p xs end) (sym (left_out n q [] from)) (s.through p q end pl from c.0 c.1)
  ]
  shrink p (q ∷ r ∷ qs) end pl el c = elim (cases_lt q n) [
    | inl lt ↦ subst (λ xs. Chain L p xs end) (sym (kept_one n q (r ∷ qs) lt)) (s.inner p q pl lt c.0, shrink q (r ∷ qs) end lt el c.1)
    | inr from ↦ (
        let rl : r < n = s.back q r from c.1.0 in
        subst (λ xs. Chain L p xs end) (sym (left_out n q (r ∷ qs) from ∙ kept_one n r qs rl)) (s.through p q r pl from c.0 c.1.0, shrink r qs end rl el c.1.1))
  ]

  lift : (p : ℕ) (qs : List ℕ) (end : ℕ) → Chain L p qs end → (xs : List ℕ) × graph.Chain g p xs end
  lift p [] end h = elim (s.way p end h) [ inl e ↦ ([], e) | inr w ↦ (w.0 ∷ [], (w.1, w.2)) ]
  lift p (q ∷ qs) end h =
      let rest : (xs : List ℕ) × graph.Chain g q xs end = lift q qs end h.1 in
      elim (s.way p q h.0) [ inl e ↦ (q ∷ rest.0, (e, rest.1)) | inr w ↦ (w.0 ∷ q ∷ rest.0, (w.1, (w.2, rest.1))) ]

  lift_circle : (p : ℕ) (circle : List ℕ) → IsCircleFrom L p circle → graph.IsOnCircle g p
  lift_circle p [] h = absurd h
  lift_circle p (q ∷ qs) h = let c : (xs : List ℕ) × graph.Chain g p xs p = lift p qs p h.1 in (p ∷ c.0, (refl, c.1))

  shrink_circle : (p : ℕ) (circle : List ℕ) → p < n → graph.IsCircleFrom g p circle → IsCircleFrom L p (first_of n circle)
  shrink_circle p [] pl c = absurd c
  shrink_circle p (q ∷ qs) pl c =
      subst (IsCircleFrom L p) (sym (kept_one n q qs (subst (λ y. y < n) (sym c.0) pl))) (c.0, shrink p qs p pl pl c.1)

  pub least_of : (circle : List ℕ) → graph.IsLeastCircle g circle → IsLeastOf L (first_of n circle)
  least_of circle l = record {
    first = l.first;
    begins = shrink_circle l.first circle (first_below l.first circle l.begins l.least) l.begins;
    least = λ q lt other c. l.least q lt (lift_circle q other c);
  }
