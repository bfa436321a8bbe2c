-- Paths of a graph, and sums over its vertices.
use Rattle.std.proofs.Common.{◌≡◌, ℕ, zero, suc, ◌+◌, ◌-◌, ◌<◌, ◌≤◌, Bool, false, List, [], ◌∷◌, ◌++◌, length, get_or, set, replicate, sym, ap, ◌∙◌, inl, inr}
use Rattle.std.proofs.Common.{arith, refl, subst}
use Rattle.std.proofs.lemmas.List.{get_or_past, length-replicate, get_or-replicate, get_or_default}
use Rattle.std.proofs.lemmas.Bool.{cases_lt}
use Rattle.flow_graph.specs.Graph.{Graph, next_of, HasEdge, Chain, IsGraph}
use Rattle.flow_graph.specs.Listing.{Trail}

pub zeros : (n x : ℕ) → ◌≡◌ {A = ℕ} (get_or (replicate n 0) x 0) 0
zeros n x = elim (cases_lt x n) [
  | inl h ↦ get_or-replicate {A = ℕ} n x 0 0 h
  | inr h ↦ get_or_past {X = ℕ} (replicate n 0) x 0 (omega (
    arith,
    length-replicate {A = ℕ} n 0,
  ))
]

pub blanks : (n x : ℕ) → ◌≡◌ {A = Bool} (get_or (replicate n false) x false) false
blanks n x = elim (cases_lt x n) [
  | inl h ↦ get_or-replicate n x false false h
  | inr h ↦ get_or_past (replicate n false) x false (omega (
    arith,
    length-replicate n false,
  ))
]

-- the last of a list, and p for none
abbrev pub last_of : ℕ → List ℕ → ℕ
last_of p [] = p
last_of p (x ∷ xs) = last_of x xs

pub last_at : (p : ℕ) (xs : List ℕ) → get_or (p ∷ xs) (length xs) 0 ≡ last_of p xs
last_at p [] = refl
last_at p (x ∷ xs) = last_at x xs

pub trail_chain : (g : Graph) (p : ℕ) (xs : List ℕ) (z : ℕ) → Trail g p xs → HasEdge g (last_of p xs) z → Chain g p xs z
trail_chain g p [] z t e = e
trail_chain g p (x ∷ xs) z (h, t) e = (h, trail_chain g x xs z t e)

pub trail_push : (g : Graph) (p : ℕ) (xs : List ℕ) (z : ℕ) → Trail g p xs → HasEdge g (last_of p xs) z → Trail g p (xs ++ z ∷ [])
trail_push g p [] z t e = (e, tt)
trail_push g p (x ∷ xs) z (h, t) e = (h, trail_push g x xs z t e)

pub trail_pop : (g : Graph) (p : ℕ) (xs : List ℕ) (z : ℕ) → Trail g p (xs ++ z ∷ []) → Trail g p xs
trail_pop g p [] z t = tt
trail_pop g p (x ∷ xs) z (h, t) = (h, trail_pop g x xs z t)

-- the last of a path, as the code reads it
pub end_at : (path : List ℕ) (n x : ℕ) → n ≡ length path → 0 < n → x ≡ get_or path (n - 1) x → get_or path (length path - 1) 0 ≡ x
end_at path n x e some xe = get_or_default path (length path - 1) 0 x (omega (arith, e)) ∙ (ap (λ i. get_or path (i - 1) x) (sym e) ∙ sym xe)

-- how many edges there are
abbrev pub total : Graph → ℕ
total [] = 0
total (r ∷ rs) = length r + total rs

abbrev pub sum_of : List ℕ → ℕ
sum_of [] = 0
sum_of (c ∷ cs) = c + sum_of cs

pub sum_within : (g : Graph) (cs : List ℕ) → length cs ≡ length g → ((x : ℕ) → get_or cs x 0 ≤ length (next_of g x)) → sum_of cs ≤ total g
sum_within [] [] e h = omega arith
sum_within [] (c ∷ cs) e h = absurd (omega (arith, e))
sum_within (r ∷ g) [] e h = absurd (omega (arith, e))
sum_within (r ∷ g) (c ∷ cs) e h =
    let a : c ≤ length r = h 0 in
    let b : sum_of cs ≤ total g = sum_within g cs (omega (arith, e)) (λ x. h (suc x)) in
    omega arith

pub sum_set : (cs : List ℕ) (x v : ℕ) → x < length cs → sum_of (set cs x v) + get_or cs x 0 ≡ sum_of cs + v
sum_set [] x v h = absurd (omega arith)
sum_set (c ∷ cs) zero v h = omega arith
sum_set (c ∷ cs) (suc x) v h = let r : sum_of (set cs x v) + get_or cs x 0 ≡ sum_of cs + v = sum_set cs x v (omega arith) in omega arith

pub no_vertex : (g : Graph) (k : ℕ) → length g ≤ k → next_of g k ≡ []
no_vertex [] k h = refl
no_vertex (r ∷ g) zero h = absurd (omega arith)
no_vertex (r ∷ g) (suc k) h = no_vertex g k (omega arith)

-- only a vertex has a successor
pub edge_inside : (g : Graph) (p q : ℕ) → HasEdge g p q → p < length g
edge_inside g p q (j, l, e) = elim (cases_lt p (length g)) [ inl h ↦ h | inr h ↦ absurd (omega (arith, ap length (no_vertex g p h))) ]

-- a successor is a vertex
pub edge_ends : (g : Graph) → IsGraph g → (p q : ℕ) → HasEdge g p q → q < length g
edge_ends g h p q (j, l, e) = subst (λ v. v < length g) e (h p [] (edge_inside g p q (j, l, e)) j q l)
