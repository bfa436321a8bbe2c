-- Vertices whose edges all lead to lower levels lie on no circle, where no edge leads to a higher one.
use Rattle.std.proofs.Common.{◌≡◌, ◌∙◌, sym, ap, subst, ℕ, ◌+◌, ◌<◌, ◌≤◌, arith, inl, inr, List, [], ◌∷◌, length, get_or}
use Rattle.std.proofs.lemmas.Bool.{cases_lt}
use Rattle.std.proofs.lemmas.List.{get_or_default}
use Rattle.flow_graph.specs.Graph.{Graph, Chain, HasEdge, IsCircleFrom, IsOnCircle, next_of}
use Rattle.flow_graph.specs.Falling.{AreFalling}
use Rattle.flow_graph.proofs.Trails.{edge_inside}

-- what holds at each place of a row holds at each of its numbers
row_most : (row levels : List ℕ) (most y : ℕ) (k : ℕ) → k < length row → get_or row k y ≡ y
    → ((k : ℕ) → k < length row → get_or levels (get_or row k 0) 0 ≤ most) → get_or levels y 0 ≤ most
row_most row levels most y k lt e h =
    subst (λ z. get_or levels z 0 ≤ most) (get_or_default row k 0 y lt ∙ e) (h k lt)

-- no edge of the first so many vertices leads to a higher level
abbrev pub FallBelow : Graph → List ℕ → ℕ → Type 0
FallBelow g levels n = (x k : ℕ) → x < n → k < length (next_of g x) → get_or levels (get_or (next_of g x) k 0) 0 ≤ get_or levels x 0

pub fall_none : (g : Graph) (levels : List ℕ) → FallBelow g levels 0
fall_none g levels x k lt at = absurd (omega (arith, lt))

pub fall_more : (g : Graph) (levels row : List ℕ) (n own : ℕ) → row ≡ next_of g n → own ≡ get_or levels n 0
    → ((k : ℕ) → k < length row → get_or levels (get_or row k 0) 0 ≤ own) → FallBelow g levels n → FallBelow g levels (n + 1)
fall_more g levels row n own is level h before x k lt at = elim (cases_lt x n) [
  | inl less ↦ before x k less at
  | inr from ↦ (let e : x ≡ n = omega (arith, lt, from) in
      let same : row ≡ next_of g x = is ∙ ap (λ y. next_of g y) (sym e) in
      let own_is : own ≡ get_or levels x 0 = level ∙ ap (λ y. get_or levels y 0) (sym e) in
      subst (λ most. get_or levels (get_or (next_of g x) k 0) 0 ≤ most) own_is
      (subst (λ (r : List ℕ). (j : ℕ) → j < length r → get_or levels (get_or r j 0) 0 ≤ own) same h k at))
]

pub fall_all : (g : Graph) (levels : List ℕ) (n : ℕ) → length g ≤ n → FallBelow g levels n → AreFalling g levels
fall_all g levels n many h x y e =
    row_most (next_of g x) levels (get_or levels x 0) y e.0 e.1 e.2
    (λ k lt. h x k (let inside : x < length g = edge_inside g x y e in omega (arith, many, inside)) lt)

chain_falls : (g : Graph) (levels : List ℕ) → AreFalling g levels → (p : ℕ) (qs : List ℕ) (end : ℕ) → Chain g p qs end
    → get_or levels end 0 ≤ get_or levels p 0
chain_falls g levels f p [] end e = f p end e
chain_falls g levels f p (q ∷ qs) end (e, c) =
    let first : get_or levels q 0 ≤ get_or levels p 0 = f p q e in
    let rest : get_or levels end 0 ≤ get_or levels q 0 = chain_falls g levels f q qs end c in
    omega (arith, first, rest)

-- an edge from p leads below p
circle_lowers : (g : Graph) (levels : List ℕ) → AreFalling g levels → (p : ℕ) → ((y : ℕ) → HasEdge g p y → get_or levels y 0 < get_or levels p 0)
    → (qs : List ℕ) → Chain g p qs p → ⊥
circle_lowers g levels f p low [] e = let lt : get_or levels p 0 < get_or levels p 0 = low p e in omega (arith, lt)
circle_lowers g levels f p low (q ∷ qs) (e, c) =
    let lt : get_or levels q 0 < get_or levels p 0 = low q e in
    let back : get_or levels p 0 ≤ get_or levels q 0 = chain_falls g levels f q qs p c in
    omega (arith, lt, back)

circle_from_low : (g : Graph) (levels : List ℕ) → AreFalling g levels → (p : ℕ)
    → ((y : ℕ) → HasEdge g p y → get_or levels y 0 < get_or levels p 0) → (circle : List ℕ) → IsCircleFrom g p circle → ⊥
circle_from_low g levels f p low [] h = h
circle_from_low g levels f p low (q ∷ qs) h = circle_lowers g levels f p low qs h.1

pub falls_apart : (g : Graph) (levels row : List ℕ) (p own most : ℕ) → row ≡ next_of g p → own ≡ get_or levels p 0 → most < own
    → ((k : ℕ) → k < length row → get_or levels (get_or row k 0) 0 ≤ most) → AreFalling g levels → IsOnCircle g p → ⊥
falls_apart g levels row p own most is level less h f on =
    circle_from_low g levels f p
    (λ y e. (let at : get_or levels y 0 ≤ most = row_most (next_of g p) levels most y e.0 e.1 e.2
    (subst (λ (r : List ℕ). (j : ℕ) → j < length r → get_or levels (get_or r j 0) 0 ≤ most) is h) in
    omega (arith, at, less, level))) on.0 on.1
