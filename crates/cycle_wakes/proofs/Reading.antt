-- Rows of readers that grow.
use Rattle.std.proofs.Common.{◌≡◌, ◌≢◌, ◌∙◌, sym, ap, subst, refl, ℕ, ◌+◌, ◌<◌, ◌≤◌, inl, inr, List, [], ◌∷◌, ◌++◌, length, set, arith}
use Rattle.std.specs.Prelude.{◌⊎◌, Contains}
use Rattle.std.proofs.lemmas.Bool.{cases_eq, cases_lt}
use Rattle.std.proofs.lemmas.List.{get_or-set_same, get_or-set_other, length-set, get_or_append_left, get_or_past, get_or_push, length_push}
use Rattle.std.proofs.lemmas.List.Elements.{Contains-append_left, Contains-push, Contains-push_cases}
use Rattle.flow_marks.specs.declared.span.Span.{Span}
use Rattle.flow_uses.specs.declared.uses.Uses.{Uses}
use Rattle.cycle_wakes.specs.Readers.{AreReaders, HasPut, places_of, reads_at, var_at}

last : (j n : ℕ) → j < n + 1 → n ≤ j → j ≡ n
last j n lt more = omega (arith, lt, more)

-- ---- rows that are empty

pub one_empty : (g : List (List ℕ)) → ((v : ℕ) → places_of g v ≡ []) → (v : ℕ) → places_of (g ++ [] ∷ []) v ≡ []
one_empty g none v = elim (cases_lt v (length g)) [
  | inl lt ↦ get_or_append_left g ([] ∷ []) [] v lt ∙ none v
  | inr from ↦ elim (cases_lt (length g) v) [
    | inl past ↦ get_or_past (g ++ [] ∷ []) v [] (omega (arith, length_push g [], past))
    | inr here ↦ get_or_push g [] [] v (omega (arith, from, here))
  ]
]

-- ---- a place in one row more

pub nothing_put : (g : List (List ℕ)) (spans : List Span) (place : ℕ) → HasPut spans 0 place g g
nothing_put g spans place = record {
  as_many = refl;
  kept = λ v k h. h;
  only = λ v k h. inl h;
  there = λ j lt. absurd (omega (arith, lt));
}

pub one_put : (a b : List (List ℕ)) (spans : List Span) (n place : ℕ) → var_at spans n < length b → HasPut spans n place a b
    → HasPut spans (n + 1) place a (set b (var_at spans n) (places_of b (var_at spans n) ++ place ∷ []))
one_put a b spans n place lt h = record {
  as_many = length-set b (var_at spans n) (places_of b (var_at spans n) ++ place ∷ []) ∙ h.as_many;
  kept = λ v k c. stays v k (h.kept v k c);
  only = λ v k c. elim (cases_eq v (var_at spans n)) [
    | inl e ↦ elim (Contains-push_cases (places_of b (var_at spans n)) place k (subst (λ row. Contains row k) (row_there v e) c)) [
      | inl old ↦ h.only v k (subst (λ v. Contains (places_of b v) k) (sym e) old)
      | inr is ↦ inr (sym is)
    ]
    | inr ne ↦ h.only v k (subst (λ row. Contains row k) (other v ne) c)
  ];
  there = λ j l. elim (cases_lt j n) [
    | inl less ↦ stays (var_at spans j) place (h.there j less)
    | inr more ↦ subst (λ row. Contains row place) (sym (row_there (var_at spans j) (ap (var_at spans) (last j n l more))))
        (Contains-push (places_of b (var_at spans n)) place)
  ];
}
  where
    row_there : (v : ℕ) → v ≡ var_at spans n
        → places_of (set b (var_at spans n) (places_of b (var_at spans n) ++ place ∷ [])) v ≡ places_of b (var_at spans n) ++ place ∷ []
    row_there v e = ap (places_of (set b (var_at spans n) (places_of b (var_at spans n) ++ place ∷ []))) e
        ∙ get_or-set_same b (var_at spans n) (places_of b (var_at spans n) ++ place ∷ []) [] lt

    other : (v : ℕ) → v ≢ var_at spans n → places_of (set b (var_at spans n) (places_of b (var_at spans n) ++ place ∷ [])) v ≡ places_of b v
    other v ne = get_or-set_other b (var_at spans n) v (places_of b (var_at spans n) ++ place ∷ []) [] ne

    stays : (v k : ℕ) → Contains (places_of b v) k → Contains (places_of (set b (var_at spans n) (places_of b (var_at spans n) ++ place ∷ [])) v) k
    stays v k c = elim (cases_eq v (var_at spans n)) [
      | inl e ↦ subst (λ row. Contains row k) (sym (row_there v e))
          (Contains-append_left (places_of b (var_at spans n)) (place ∷ []) k (subst (λ v. Contains (places_of b v) k) e c))
      | inr ne ↦ subst (λ row. Contains row k) (sym (other v ne)) c
    ]

-- ---- one process more

pub none_read : (vars : ℕ) (uses : List Uses) (order : List ℕ) (g : List (List ℕ)) → length g ≡ vars → ((v : ℕ) → places_of g v ≡ [])
    → AreReaders vars uses order 0 g
none_read vars uses order g many none = record {
  as_many = many;
  within = λ v k h. absurd (no_place k (subst (λ row. Contains row k) (none v) h));
  there = λ k j lt. absurd (omega (arith, lt));
}
  where
    no_place : (k : ℕ) → Contains [] k → ⊥
    no_place k h = omega (arith, h.1)

pub one_read : (vars : ℕ) (uses : List Uses) (order : List ℕ) (n : ℕ) (spans : List Span) (a b : List (List ℕ)) → spans ≡ reads_at uses order n
    → AreReaders vars uses order n a → HasPut spans (length spans) n a b → AreReaders vars uses order (n + 1) b
one_read vars uses order n spans a b is h g = record {
  as_many = g.as_many ∙ h.as_many;
  within = λ v k e. elim (g.only v k e) [
    | inl old ↦ omega (arith, h.within v k old)
    | inr new ↦ omega (arith, new)
  ];
  there = λ k j lt l. elim (cases_lt k n) [
    | inl less ↦ g.kept (var_at (reads_at uses order k) j) k (h.there k j less l)
    | inr more ↦ here k j (last k n lt more) l
  ];
}
  where
    here : (k j : ℕ) → k ≡ n → j < length (reads_at uses order k) → Contains (places_of b (var_at (reads_at uses order k) j)) k
    here k j e l = subst (λ k. Contains (places_of b (var_at (reads_at uses order k) j)) k) (sym e)
        (subst (λ xs. Contains (places_of b (var_at xs j)) n) is
        (g.there j (omega (arith, subst (λ k. j < length (reads_at uses order k)) e l, ap (λ (xs : List Span). length xs) is))))
