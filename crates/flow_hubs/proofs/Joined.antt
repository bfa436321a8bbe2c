-- A graph that has grown by a hub stands for one relation more.
use Rattle.std.proofs.Common.{◌≡◌, ◌≢◌, ◌∙◌, sym, ap, subst, refl, ℕ, ◌+◌, ◌<◌, ◌≤◌, arith, inl, inr, Bool, true, false, List, [], ◌∷◌, ◌++◌, length, get_or}
use Rattle.std.specs.Prelude.{◌⊎◌, Contains}
use Rattle.std.proofs.lemmas.Bool.{cases_lt, cases_eq, false≢true}
use Rattle.std.proofs.lemmas.List.{get_or_append_left, get_or_past, get_or_push, length_push}
use Rattle.flow_graph.specs.Graph.{Graph, HasEdge}
use Rattle.flow_graph.proofs.Trails.{edge_inside}
use Rattle.flow_hubs.specs.Hubs.{Joins, JoinsNew, JoinsShared, Stands, Through}

-- the relation, or through the hub
abbrev pub Either : (ℕ → ℕ → Type 0) → List ℕ → List ℕ → List Bool → ℕ → ℕ → Type 0
Either L drivers readers selfish p q = L p q ⊎ Through drivers readers selfish p q

-- it stands for a relation that says the same
pub stands_as : (n : ℕ) (L M : ℕ → ℕ → Type 0) (g : Graph) → Stands n L g → ((p q : ℕ) → L p q → M p q) → ((p q : ℕ) → M p q → L p q) → Stands n M g
stands_as n L M g s to from = record {
  many = s.many;
  ends = s.ends;
  inner = λ p q pl ql h. to p q (s.inner p q pl ql h);
  through = λ p v q pl vn a b. to p q (s.through p v q pl vn a b);
  back = s.back;
  inside = λ p q m. s.inside p q (from p q m);
  way = λ p q m. s.way p q (from p q m);
}

-- ---- an empty row more

module _ (g : Graph) where
  no_number : (x : ℕ) → Contains [] x → ⊥
  no_number x h = omega (arith, h.1)

  pub row_from : (i x : ℕ) → HasEdge (g ++ [] ∷ []) i x → HasEdge g i x
  row_from i x h = elim (cases_lt i (length g)) [
    | inl lt ↦ subst (λ row. Contains row x) (get_or_append_left g ([] ∷ []) [] i lt) h
    | inr from ↦ elim (cases_lt (length g) i) [
      | inl past ↦ absurd (no_number x (subst (λ row. Contains row x) (get_or_past (g ++ [] ∷ []) i [] (omega (arith, length_push g [], past))) h))
      | inr here ↦ absurd (no_number x (subst (λ row. Contains row x) (get_or_push g [] [] i (omega (arith, from, here))) h))
    ]
  ]

  pub row_to : (i x : ℕ) → HasEdge g i x → HasEdge (g ++ [] ∷ []) i x
  row_to i x h = subst (λ row. Contains row x) (sym (get_or_append_left g ([] ∷ []) [] i (edge_inside g i x h))) h

-- ---- one hub

module _ (n : ℕ) (L : ℕ → ℕ → Type 0) (old new : Graph) (drivers readers : List ℕ) (selfish : List Bool) (s : Stands n L old)
    (below : (x : ℕ) → Contains drivers x → x < n) (under : (x : ℕ) → Contains readers x → x < n) where
  either_inside : (p q : ℕ) → Either L drivers readers selfish p q → (p < n) × (q < n)
  either_inside p q e = elim e [ inl l ↦ s.inside p q l | inr t ↦ (below p t.0, under q t.1) ]

  -- the hub is one of the first vertices
  module _ (j : JoinsShared old new drivers readers selfish) where
    hub_below : j.hub < n
    hub_below = below j.hub j.shared.driver

    old_or : (i x : ℕ) → HasEdge new i x → HasEdge old i x ⊎ ((i < n) × (x < n) × Through drivers readers selfish i x)
    old_or i x h = elim (j.adds.only i x h) [
      | inl o ↦ inl o
      | inr a ↦ elim a.1 [
        | inl to ↦ inr (below i to.0, subst (λ y. y < n) (sym to.1) hub_below, (to.0, subst (Contains readers) (sym to.1) j.shared.reader, inl a.0))
        | inr out ↦ inr (subst (λ y. y < n) (sym out.0) hub_below, under x out.1, (subst (Contains drivers) (sym out.0) j.shared.driver, out.1, inl a.0))
      ]
    ]

    way_shared : (p q : ℕ) → Through drivers readers selfish p q → HasEdge new p q ⊎ ((v : ℕ) × HasEdge new p v × HasEdge new v q)
    way_shared p q t = elim (cases_eq p j.hub) [
      | inl ph ↦ elim (cases_eq q j.hub) [
        | inl qh ↦ absurd (elim t.2 [
          | inl d ↦ d (ph ∙ sym qh)
          | inr own ↦ false≢true (sym j.shared.apart ∙ subst (λ y. get_or selfish y false ≡ true) ph own)
        ])
        | inr qd ↦ inl (j.adds.there p q (λ e. qd (sym e ∙ ph), inr (ph, t.1)))
      ]
      | inr pd ↦ elim (cases_eq q j.hub) [
        | inl qh ↦ inl (j.adds.there p q (λ e. pd (e ∙ qh), inl (t.0, qh)))
        | inr qd ↦ inr (j.hub, j.adds.there p j.hub (pd, inl (t.0, refl)), j.adds.there j.hub q (λ e. qd (sym e), inr (refl, t.1)))
      ]
    ]

    shared_stands : Stands n (Either L drivers readers selfish) new
    shared_stands = record {
      many = omega (arith, s.many, j.adds.as_many);
      ends = λ i x h. elim (old_or i x h) [
        | inl o ↦ (let lt : x < length old = s.ends i x o in omega (arith, lt, j.adds.as_many))
        | inr t ↦ omega (arith, t.1, s.many, j.adds.as_many)
      ];
      inner = λ p q pl ql h. elim (old_or p q h) [ inl o ↦ inl (s.inner p q pl ql o) | inr t ↦ inr t.2 ];
      through = λ p v q pl vn a b. elim (old_or p v a) [
        | inl o ↦ elim (old_or v q b) [ inl u ↦ inl (s.through p v q pl vn o u) | inr t ↦ absurd (omega (arith, t.0, vn)) ]
        | inr t ↦ absurd (omega (arith, t.1, vn))
      ];
      back = λ v q vn h. elim (old_or v q h) [ inl o ↦ s.back v q vn o | inr t ↦ t.1 ];
      inside = either_inside;
      way = λ p q e. elim e [
        | inl l ↦ elim (s.way p q l) [
          | inl o ↦ inl (j.adds.kept p q o)
          | inr w ↦ inr (w.0, j.adds.kept p w.0 w.1, j.adds.kept w.0 q w.2)
        ]
        | inr t ↦ way_shared p q t
      ];
    }

  -- the hub is a new vertex
  module _ (j : JoinsNew old new drivers readers selfish) where
    longer : length new ≡ length old + 1
    longer = j.adds.as_many ∙ length_push old []

    grown_or : (i x : ℕ) → HasEdge new i x → HasEdge old i x ⊎ ((Contains drivers i × (x ≡ length old)) ⊎ ((i ≡ length old) × Contains readers x))
    grown_or i x h = elim (j.adds.only i x h) [ inl o ↦ inl (row_from old i x o) | inr a ↦ inr a.1 ]

    kept_there : (i x : ℕ) → HasEdge old i x → HasEdge new i x
    kept_there i x h = j.adds.kept i x (row_to old i x h)

    bool_cases : (b : Bool) → (b ≡ true) ⊎ (b ≡ false)
    bool_cases true = inl refl
    bool_cases false = inr refl

    through_new : (p q : ℕ) → Contains drivers p → Contains readers q → Through drivers readers selfish p q
    through_new p q d r = (
      d,
      r,
      elim (cases_eq p q) [
        | inr apart ↦ inl apart
        | inl same ↦ elim (bool_cases (get_or selfish p false)) [
          | inl own ↦ inr own
          | inr not ↦ absurd (j.none p (record { driver = d; reader = subst (Contains readers) (sym same) r; apart = not }))
        ]
      ],
    )

    new_stands : Stands n (Either L drivers readers selfish) new
    new_stands = record {
      many = omega (arith, s.many, longer);
      ends = λ i x h. elim (grown_or i x h) [
        | inl o ↦ (let lt : x < length old = s.ends i x o in omega (arith, lt, longer))
        | inr a ↦ elim a [
          | inl to ↦ omega (arith, to.1, longer)
          | inr out ↦ (let lt : x < n = under x out.1 in omega (arith, lt, s.many, longer))
        ]
      ];
      inner = λ p q pl ql h. elim (grown_or p q h) [
        | inl o ↦ inl (s.inner p q pl ql o)
        | inr a ↦ absurd (elim a [ inl to ↦ omega (arith, to.1, ql, s.many) | inr out ↦ omega (arith, out.0, pl, s.many) ])
      ];
      through = λ p v q pl vn a b. elim (grown_or p v a) [
        | inl o ↦ elim (grown_or v q b) [
          | inl u ↦ inl (s.through p v q pl vn o u)
          | inr c ↦ absurd (elim c [
            | inl to ↦ (let lt : v < n = below v to.0 in omega (arith, lt, vn))
            | inr out ↦ (let lt : v < length old = s.ends p v o in omega (arith, lt, out.0))
          ])
        ]
        | inr c ↦ elim c [
          | inl to ↦ elim (grown_or v q b) [
            | inl u ↦ absurd (let lt : v < length old = edge_inside old v q u in omega (arith, lt, to.1))
            | inr e ↦ elim e [
              | inl again ↦ absurd (let lt : v < n = below v again.0 in omega (arith, lt, vn))
              | inr out ↦ inr (through_new p q to.0 out.1)
            ]
          ]
          | inr out ↦ absurd (omega (arith, out.0, pl, s.many))
        ]
      ];
      back = λ v q vn h. elim (grown_or v q h) [
        | inl o ↦ s.back v q vn o
        | inr a ↦ elim a [
          | inl to ↦ absurd (let lt : v < n = below v to.0 in omega (arith, lt, vn))
          | inr out ↦ under q out.1
        ]
      ];
      inside = either_inside;
      way = λ p q e. elim e [
        | inl l ↦ elim (s.way p q l) [
          | inl o ↦ inl (kept_there p q o)
          | inr w ↦ inr (w.0, kept_there p w.0 w.1, kept_there w.0 q w.2)
        ]
        | inr t ↦ (
            let pl : p < n = below p t.0 in
            let ql : q < n = under q t.1 in
            inr (
              length old,
              j.adds.there p (length old) (λ e. omega (arith, e, pl, s.many), inl (t.0, refl)),
              j.adds.there (length old) q (λ e. omega (arith, e, ql, s.many), inr (refl, t.1)),
            ))
      ];
    }

  pub joins_stand : Joins old new drivers readers selfish → Stands n (Either L drivers readers selfish) new
  joins_stand j = elim j [
    | inl none ↦ subst (λ (g : Graph). Stands n (Either L drivers readers selfish) g) (sym none.same)
        (stands_as n L (Either L drivers readers selfish) old s (λ p q l. inl l) (λ p q e. elim e [ inl l ↦ l | inr t ↦ absurd (none.none p q t) ]))
    | inr some ↦ elim some [ inl a ↦ shared_stands a | inr a ↦ new_stands a ]
  ]

pub joins_longer : (old new : Graph) (drivers readers : List ℕ) (selfish : List Bool) → Joins old new drivers readers selfish
    → (length old ≤ length new) × (length new ≤ length old + 1)
joins_longer old new drivers readers selfish j = elim j [
  | inl none ↦ (let e : length new ≡ length old = ap length none.same in (omega (arith, e), omega (arith, e)))
  | inr some ↦ elim some [
    | inl a ↦ (omega (arith, a.adds.as_many), omega (arith, a.adds.as_many))
    | inr a ↦ (omega (arith, a.adds.as_many, length_push old []), omega (arith, a.adds.as_many, length_push old []))
  ]
]
