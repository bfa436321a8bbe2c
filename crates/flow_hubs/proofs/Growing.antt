-- Rows that grow.
use Rattle.std.proofs.Common.{◌≡◌, ◌≢◌, ◌∙◌, sym, ap, subst, refl, ℕ, ◌<◌, arith, inl, inr, [], ◌∷◌, ◌++◌, length, set}
use Rattle.std.specs.Prelude.{◌⊎◌, Contains}
use Rattle.std.proofs.lemmas.List.{get_or-set_same, get_or-set_other, length-set, get_or_append_left, get_or_past, get_or_push, length_push}
use Rattle.std.proofs.lemmas.List.Elements.{Contains-append_left, Contains-push, Contains-push_cases}
use Rattle.std.proofs.lemmas.Bool.{cases_lt, cases_eq}
use Rattle.flow_graph.specs.Graph.{Graph, HasEdge, next_of}
use Rattle.flow_hubs.specs.Adding.{Adds}

pub adds_none : (g : Graph) (R : ℕ → ℕ → Type 0) → ((i x : ℕ) → R i x → ⊥) → Adds g g R
adds_none g R none = record {
  as_many = refl;
  kept = λ i x h. h;
  only = λ i x h. inl h;
  there = λ i x r. absurd (none i x r);
}

-- what grew by two relations, one after the other, grew by what either names
pub adds_more : (a b c : Graph) (R S T : ℕ → ℕ → Type 0) → Adds a b R → Adds b c S
    → ((i x : ℕ) → R i x → T i x) → ((i x : ℕ) → S i x → T i x) → ((i x : ℕ) → T i x → R i x ⊎ S i x) → Adds a c T
adds_more a b c R S T first then from_first from_then either = record {
  as_many = then.as_many ∙ first.as_many;
  kept = λ i x h. then.kept i x (first.kept i x h);
  only = λ i x h. elim (then.only i x h) [
    | inl before ↦ elim (first.only i x before) [ inl old ↦ inl old | inr r ↦ inr (from_first i x r) ]
    | inr s ↦ inr (from_then i x s)
  ];
  there = λ i x t. elim (either i x t) [ inl r ↦ then.kept i x (first.there i x r) | inr s ↦ then.there i x s ];
}

pub adds_as : (a b : Graph) (R T : ℕ → ℕ → Type 0) → Adds a b R → ((i x : ℕ) → R i x → T i x) → ((i x : ℕ) → T i x → R i x) → Adds a b T
adds_as a b R T h to from = record {
  as_many = h.as_many;
  kept = h.kept;
  only = λ i x e. elim (h.only i x e) [ inl old ↦ inl old | inr r ↦ inr (to i x r) ];
  there = λ i x t. h.there i x (from i x t);
}

-- a number that the row has already
pub adds_known : (g : Graph) (at n : ℕ) → HasEdge g at n → Adds g g (λ i x. (i ≡ at) × (x ≡ n))
adds_known g at n has = record {
  as_many = refl;
  kept = λ i x h. h;
  only = λ i x h. inl h;
  there = λ i x r. subst (λ j. HasEdge g j x) (sym r.0) (subst (HasEdge g at) (sym r.1) has);
}

-- a number put at the end of a row
pub adds_pushed : (g : Graph) (at n : ℕ) → at < length g → Adds g (set g at (next_of g at ++ n ∷ [])) (λ i x. (i ≡ at) × (x ≡ n))
adds_pushed g at n lt = record {
  as_many = length-set g at (next_of g at ++ n ∷ []);
  kept = λ i x h. elim (cases_eq i at) [
    | inl e ↦ subst (λ row. Contains row x) (sym (row_there i e))
        (Contains-append_left (next_of g at) (n ∷ []) x (subst (λ j. HasEdge g j x) e h))
    | inr d ↦ subst (λ row. Contains row x) (sym (other i d)) h
  ];
  only = λ i x h. elim (cases_eq i at) [
    | inl e ↦ elim (Contains-push_cases (next_of g at) n x (subst (λ row. Contains row x) (row_there i e) h)) [
      | inl old ↦ inl (subst (λ j. HasEdge g j x) (sym e) old)
      | inr is ↦ inr (e, sym is)
    ]
    | inr d ↦ inl (subst (λ row. Contains row x) (other i d) h)
  ];
  there = λ i x r. subst (λ row. Contains row x) (sym (row_there i r.0))
      (subst (λ y. Contains (next_of g at ++ n ∷ []) y) (sym r.1) (Contains-push (next_of g at) n));
}
  where
    row_there : (i : ℕ) → i ≡ at → next_of (set g at (next_of g at ++ n ∷ [])) i ≡ next_of g at ++ n ∷ []
    row_there i e = ap (λ j. next_of (set g at (next_of g at ++ n ∷ [])) j) e ∙ get_or-set_same g at (next_of g at ++ n ∷ []) [] lt

    other : (i : ℕ) → i ≢ at → next_of (set g at (next_of g at ++ n ∷ [])) i ≡ next_of g i
    other i d = get_or-set_other g at i (next_of g at ++ n ∷ []) [] d

-- ---- rows that begin empty

pub empty_more : (g : Graph) → ((i x : ℕ) → HasEdge g i x → ⊥) → (i x : ℕ) → HasEdge (g ++ [] ∷ []) i x → ⊥
empty_more g none i x h = elim (cases_lt i (length g)) [
  | inl lt ↦ none i x (subst (λ row. Contains row x) (get_or_append_left g ([] ∷ []) [] i lt) h)
  | inr from ↦ elim (cases_lt (length g) i) [
    | inl past ↦ no_number x (subst (λ row. Contains row x) (get_or_past (g ++ [] ∷ []) i [] (omega (arith, length_push g [], past))) h)
    | inr here ↦ no_number x (subst (λ row. Contains row x) (get_or_push g [] [] i (omega (arith, from, here))) h)
  ]
]
  where
    no_number : (x : ℕ) → Contains [] x → ⊥
    no_number x h = omega (arith, h.1)
