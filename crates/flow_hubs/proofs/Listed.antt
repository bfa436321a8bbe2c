-- Edges and marks, vertex by vertex.
use Rattle.std.proofs.Common.{◌≡◌, ◌≢◌, ◌∙◌, sym, ap, subst, refl, ℕ, ◌+◌, ◌<◌, arith, inl, inr, Bool, true, false, List, [], ◌∷◌, ◌++◌, length, get_or, take}
use Rattle.std.proofs.Common.{set}
use Rattle.std.specs.Prelude.{◌⊎◌, Contains, Option, Some, None, IfSome, IfNone}
use Rattle.std.proofs.lemmas.Bool.{cases_eq, false≢true}
use Rattle.std.proofs.lemmas.List.{take_more, get_or-set_same, get_or-set_other, length-set}
use Rattle.std.proofs.lemmas.List.Elements.{Contains-append_left, Contains-push, Contains-push_cases}
use Rattle.flow_graph.specs.Graph.{Graph}
use Rattle.flow_hubs.specs.Adding.{Adds}
use Rattle.flow_hubs.specs.Hubs.{IsClear, IsShared}
use Rattle.flow_hubs.proofs.Growing.{adds_none, adds_more}

-- ---- the first so many of a list, and one more

pub one_more : (xs : List ℕ) (n x : ℕ) → n < length xs → Contains (take (n + 1) xs) x → Contains (take n xs) x ⊎ (x ≡ get_or xs n 0)
one_more xs n x lt h =
    elim (Contains-push_cases (take n xs) (get_or xs n 0) x (subst (λ ys. Contains ys x) (take_more xs n 0 lt) h)) [
      | inl old ↦ inl old
      | inr is ↦ inr (sym is)
    ]

pub one_kept : (xs : List ℕ) (n x : ℕ) → n < length xs → Contains (take n xs) x → Contains (take (n + 1) xs) x
one_kept xs n x lt h = subst (λ ys. Contains ys x) (sym (take_more xs n 0 lt)) (Contains-append_left (take n xs) (get_or xs n 0 ∷ []) x h)

pub one_there : (xs : List ℕ) (n x : ℕ) → n < length xs → x ≡ get_or xs n 0 → Contains (take (n + 1) xs) x
one_there xs n x lt e =
    subst (λ ys. Contains ys x) (sym (take_more xs n 0 lt))
    (subst (λ y. Contains (take n xs ++ get_or xs n 0 ∷ []) y) (sym e) (Contains-push (take n xs) (get_or xs n 0)))

-- ---- edges

abbrev pub In : List ℕ → ℕ → ℕ → ℕ → ℕ → Type 0
In from hub n i x = (i ≢ x) × Contains (take n from) i × (x ≡ hub)

abbrev pub Out : ℕ → List ℕ → ℕ → ℕ → ℕ → Type 0
Out hub to n i x = (i ≢ x) × (i ≡ hub) × Contains (take n to) x

pub in_none : (from : List ℕ) (hub : ℕ) (g : Graph) → Adds g g (In from hub 0)
in_none from hub g = adds_none g (In from hub 0) (λ i x r. absurd (omega (arith, r.1.1)))

pub out_none : (hub : ℕ) (to : List ℕ) (g : Graph) → Adds g g (Out hub to 0)
out_none hub to g = adds_none g (Out hub to 0) (λ i x r. absurd (omega (arith, r.2.1)))

pub in_more : (from : List ℕ) (hub n : ℕ) (a b c : Graph) → n < length from → Adds a b (In from hub n)
    → Adds b c (λ i x. (i ≢ x) × (i ≡ get_or from n 0) × (x ≡ hub)) → Adds a c (In from hub (n + 1))
in_more from hub n a b c lt first then =
    adds_more a b c (In from hub n) (λ i x. (i ≢ x) × (i ≡ get_or from n 0) × (x ≡ hub)) (In from hub (n + 1)) first then
    (λ i x r. (r.0, one_kept from n i lt r.1, r.2))
    (λ i x r. (r.0, one_there from n i lt r.1, r.2))
    (λ i x t. elim (one_more from n i lt t.1) [ inl old ↦ inl (t.0, old, t.2) | inr is ↦ inr (t.0, is, t.2) ])

pub out_more : (hub : ℕ) (to : List ℕ) (n : ℕ) (a b c : Graph) → n < length to → Adds a b (Out hub to n)
    → Adds b c (λ i x. (i ≢ x) × (i ≡ hub) × (x ≡ get_or to n 0)) → Adds a c (Out hub to (n + 1))
out_more hub to n a b c lt first then =
    adds_more a b c (Out hub to n) (λ i x. (i ≢ x) × (i ≡ hub) × (x ≡ get_or to n 0)) (Out hub to (n + 1)) first then
    (λ i x r. (r.0, r.1, one_kept to n x lt r.2))
    (λ i x r. (r.0, r.1, one_there to n x lt r.2))
    (λ i x t. elim (one_more to n x lt t.2) [ inl old ↦ inl (t.0, t.1, old) | inr is ↦ inr (t.0, t.1, is) ])

-- ---- marks

-- those of the first so many vertices have this mark, and each other has that of before
pub record Marks (old new : List Bool) (vertices : List ℕ) (mark : Bool) : Type 0 where
  pub many : length new ≡ length old
  pub there : (p : ℕ) → Contains vertices p → get_or new p false ≡ mark
  pub only : (p : ℕ) → Contains vertices p ⊎ (get_or new p false ≡ get_or old p false)

pub marks_none : (marks : List Bool) (vertices : List ℕ) (mark : Bool) → Marks marks marks (take 0 vertices) mark
marks_none marks vertices mark = record {
  many = refl;
  there = λ p h. absurd (omega (arith, h.1));
  only = λ p. inr refl;
}

pub marks_more : (old now new : List Bool) (vertices : List ℕ) (mark : Bool) (n p : ℕ) → n < length vertices → p ≡ get_or vertices n 0
    → p < length now → new ≡ set now p mark → Marks old now (take n vertices) mark → Marks old new (take (n + 1) vertices) mark
marks_more old now new vertices mark n p lt is inside e m = record {
  many = ap length e ∙ (same_length now p mark ∙ m.many);
  there = λ x h. elim (cases_eq x p) [
    | inl same ↦ at_it x same
    | inr other ↦ elim (one_more vertices n x lt h) [
      | inl before ↦ beside x other ∙ m.there x before
      | inr here ↦ absurd (other (here ∙ sym is))
    ]
  ];
  only = λ x. elim (cases_eq x p) [
    | inl same ↦ inl (one_there vertices n x lt (same ∙ is))
    | inr other ↦ elim (m.only x) [
      | inl before ↦ inl (one_kept vertices n x lt before)
      | inr kept ↦ inr (beside x other ∙ kept)
    ]
  ];
}
  where
    same_length : (xs : List Bool) (i : ℕ) (b : Bool) → length (set xs i b) ≡ length xs
    same_length xs i b = length-set xs i b

    at_it : (x : ℕ) → x ≡ p → get_or new x false ≡ mark
    at_it x same = ap (λ ys. get_or ys x false) e ∙ (ap (λ y. get_or (set now p mark) y false) same ∙ get_or-set_same now p mark false inside)

    beside : (x : ℕ) → x ≢ p → get_or new x false ≡ get_or now x false
    beside x other = ap (λ ys. get_or ys x false) e ∙ get_or-set_other now p x mark false other

-- ---- the first marked vertex that may not lead to itself

-- each marked one of some may
abbrev pub AllMay : List Bool → List Bool → List ℕ → Type 0
AllMay marks selfish vertices = (p : ℕ) → Contains vertices p → get_or marks p false ≡ true → get_or selfish p false ≡ true

pub may_none : (marks selfish : List Bool) (vertices : List ℕ) → AllMay marks selfish (take 0 vertices)
may_none marks selfish vertices p h = absurd (omega (arith, h.1))

pub may_more : (marks selfish : List Bool) (vertices : List ℕ) (n : ℕ) → n < length vertices → AllMay marks selfish (take n vertices)
    → (get_or marks (get_or vertices n 0) false ≡ true → get_or selfish (get_or vertices n 0) false ≡ true) → AllMay marks selfish (take (n + 1) vertices)
may_more marks selfish vertices n lt before here p h = elim (one_more vertices n p lt h) [
  | inl old ↦ before p old
  | inr is ↦ subst (λ y. get_or marks y false ≡ true → get_or selfish y false ≡ true) (sym is) here
]

-- ---- a shared vertex

module _ (drivers readers : List ℕ) (selfish old marked : List Bool) (clear : IsClear old) (m : Marks old marked drivers true) where
  driven : (p : ℕ) → get_or marked p false ≡ true → Contains drivers p
  driven p h = elim (m.only p) [ inl c ↦ c | inr kept ↦ absurd (false≢true (sym (clear p) ∙ (sym kept ∙ h))) ]

  pub shared_some : (r : Option ℕ) → IfSome r (λ p. Contains readers p) → IfSome r (λ p. get_or marked p false ≡ true)
      → IfSome r (λ p. get_or selfish p false ≡ false) → IfSome r (IsShared drivers readers selfish)
  shared_some (Some p) reads mark apart = record { driver = driven p mark; reader = reads; apart = apart }
  shared_some None reads mark apart = tt

  pub shared_none : (r : Option ℕ) → IfNone r (AllMay marked selfish readers) → IfNone r ((p : ℕ) → IsShared drivers readers selfish p → ⊥)
  shared_none (Some p) h = tt
  shared_none None h = λ p s. false≢true (sym s.apart ∙ h p s.reader (m.there p s.driver))

-- what was marked and unmarked is clear again
pub clear_again : (old marked new : List Bool) (drivers : List ℕ) → IsClear old → Marks old marked drivers true → Marks marked new drivers false
    → IsClear new
clear_again old marked new drivers clear m k p = elim (k.only p) [
  | inl c ↦ k.there p c
  | inr kept ↦ elim (m.only p) [ inl c ↦ k.there p c | inr before ↦ kept ∙ (before ∙ clear p) ]
]
