-- What is listed lies on no circle, and a list of all vertices turned round is an order.
use Rattle.std.proofs.Common.{◌≡◌, ℕ, ◌-◌, ◌<◌, List, [], ◌∷◌, length, get_or, reverse, refl, sym, ap, ◌∙◌, subst, arith}
use Rattle.std.specs.Prelude.{Contains}
use Rattle.std.proofs.lemmas.List.{get_or_default, get_or-reverse, length-reverse}
use Rattle.flow_graph.specs.Graph.{Graph, HasEdge, Chain, IsOnCircle, IsOrder}
use Rattle.flow_graph.proofs.Trails.{edge_inside}
use Rattle.flow_graph.specs.Listing.{IsListed}

-- a walk goes from a place of the list only to earlier places
pub goes_down : (g : Graph) (post : List ℕ) → IsListed g post → (xs : List ℕ) (k q : ℕ) → k < length post → Chain g (get_or post k 0) xs q
    → (j : ℕ) × (j < k) × (get_or post j 0 ≡ q)
goes_down g post s [] k q l c = s.sorted k q l c
goes_down g post s (x ∷ xs) k q l (h, c) =
    let r : (j : ℕ) × (j < k) × (get_or post j 0 ≡ x) = s.sorted k x l h in
    let lt : r.0 < k = r.1 in
    let d : (j : ℕ) × (j < r.0) × (get_or post j 0 ≡ q) = goes_down g post s xs r.0 q (omega arith) (subst (λ v. Chain g v xs q) (sym r.2) c) in
    let le : d.0 < r.0 = d.1 in (d.0, omega arith, d.2)

-- what is listed lies on no circle
pub listed_apart : (g : Graph) (post : List ℕ) → IsListed g post → (p : ℕ) → Contains post p → (xs : List ℕ) → Chain g p xs p → ⊥
listed_apart g post s p (k, l, e) xs c =
    let at : get_or post k 0 ≡ p = get_or_default post k 0 p l ∙ e in
    let d : (j : ℕ) × (j < k) × (get_or post j 0 ≡ p) = goes_down g post s xs k p l (subst (λ v. Chain g v xs p) (sym at) c) in
    let lt : d.0 < k = d.1 in
    s.once d.0 k d.1 l (d.2 ∙ sym at)

chain_inside : (g : Graph) (p q : ℕ) (xs : List ℕ) → Chain g p xs q → p < length g
chain_inside g p q [] e = edge_inside g p q e
chain_inside g p q (x ∷ xs) (e, c) = edge_inside g p x e

-- only a vertex lies on a circle
pub circle_inside : (g : Graph) (p : ℕ) → IsOnCircle g p → p < length g
circle_inside g p ([], c) = absurd c
circle_inside g p (x ∷ xs, (e, c)) = chain_inside g p p xs c

-- where each vertex is listed, none lies on a circle
pub none_on_circle : (g : Graph) (post : List ℕ) → IsListed g post → ((p : ℕ) → p < length g → Contains post p) → (p : ℕ) → IsOnCircle g p → ⊥
none_on_circle g post s all p ([], c) = c
none_on_circle g post s all p (x ∷ xs, (e, c)) = listed_apart g post s p (all p (chain_inside g p p xs c)) xs c

-- ---- the list turned round

turned : (post : List ℕ) (k d : ℕ) → k < length (reverse post)
    → (length post - 1 - k < length post) × (get_or (reverse post) k d ≡ get_or post (length post - 1 - k) 0)
turned post k d l =
    let m : k < length post = omega (arith, length-reverse post) in
    let n : length post - 1 - k < length post = omega arith in
    (n, get_or-reverse post k d m ∙ get_or_default post (length post - 1 - k) d 0 n)

pub order_from : (g : Graph) (post : List ℕ) → IsListed g post → ((p : ℕ) → p < length g → Contains post p) → IsOrder g (reverse post)
order_from g post s all = record {
  all = λ p l. held p (all p l);
  only = λ k d l. let t = turned post k d l in subst (λ v. v < length g) (sym t.1) (s.inside (length post - 1 - k) t.0);
  once = λ i j d a b.
      let t = turned post i d (omega arith) in
      let u = turned post j d b in
      let c : j < length post = omega (arith, length-reverse post) in
      λ e. s.once (length post - 1 - j) (length post - 1 - i) (omega arith) t.0 (sym u.1 ∙ (sym e ∙ t.1));
  forward = λ i j d a b h.
      let t = turned post i d (omega arith) in
      let u = turned post j d b in
      let c : j < length post = omega (arith, length-reverse post) in
      let e : HasEdge g (get_or post (length post - 1 - j) 0) (get_or post (length post - 1 - i) 0) = subst (λ v. HasEdge g v (get_or post (length post - 1
      - i) 0)) u.1 (subst (λ v. HasEdge g (get_or (reverse post) j d) v) t.1 h) in
      let f : (k : ℕ) × (k < length post - 1 - j) × (get_or post k 0 ≡ get_or post (length post - 1 - i) 0) = s.sorted (length post - 1 - j) (get_or post
      (length post - 1 - i) 0) u.0 e in
      let m : f.0 < length post - 1 - j = f.1 in
      s.once f.0 (length post - 1 - i) (omega arith) t.0 f.2;
  apart = λ p e. none_on_circle g post s all p (p ∷ [], (refl, e));
}
  where
    held : (p : ℕ) → Contains post p → Contains (reverse post) p
    held p (k, l, e) =
        let n : length post - 1 - k < length (reverse post) = omega (arith, length-reverse post) in
        let m : length post - 1 - (length post - 1 - k) ≡ k = omega arith in
        (length post - 1 - k, n, get_or-reverse post (length post - 1 - k) p (omega arith) ∙ (ap (λ i. get_or post i p) m ∙ e))
