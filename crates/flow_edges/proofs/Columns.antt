-- Columns joined one after the other, and what leads to what by them.
use Rattle.std.proofs.Common.{◌≡◌, ◌≢◌, ◌∙◌, sym, ap, subst, refl, ℕ, ◌+◌, ◌<◌, arith, inl, inr, Bool, true, false, List, [], ◌∷◌, ◌++◌, length, get_or, IsTrue}
use Rattle.std.specs.Prelude.{◌⊎◌}
use Rattle.std.proofs.lemmas.Bool.{cases_lt, cases_eq}
use Rattle.std.proofs.lemmas.List.{get_or_append_left, get_or_push, length_push}
use Rattle.design_tree.specs.declared.design.Design.{Design}
use Rattle.circuit_run.specs.Kinds.{settles, is_assign}
use Rattle.design_meaning.specs.Processes.{kind_of}
use Rattle.design_meaning.specs.Flow.{Leads}
use Rattle.flow_graph.specs.Graph.{Graph, HasEdge, next_of}
use Rattle.flow_graph.proofs.Trails.{edge_inside}
use Rattle.flow_hubs.specs.Hubs.{Joins, Stands, Through}
use Rattle.flow_hubs.proofs.Joined.{Either, joins_stand, stands_as}
use Rattle.flow_marks.specs.declared.span.Span.{Span}
use Rattle.flow_spans.specs.Reads.{IsSpanOf}
use Rattle.flow_uses.specs.declared.uses.Uses.{Uses}
use Rattle.flow_uses.specs.Uses.{AreUsesOf, no_uses}
use Rattle.flow_edges.specs.declared.links.Links.{Links}
use Rattle.flow_edges.specs.declared.owners.Owners.{Owners}
use Rattle.flow_edges.specs.Stretches.{column_number}
use Rattle.flow_edges.specs.Owning.{AreOwners, slots_of}
use Rattle.flow_edges.specs.Linking.{AreLinks, AreSelfish, Direct, DrivesIn, LeadsBy, MayLead, Reading, ReadsSpan}
use Rattle.flow_edges.proofs.Numbers.{among_columns}
use Rattle.flow_edges.proofs.Owned.{settles_below}
use Rattle.flow_edges.proofs.Linked.{Meeting, by_column, leads_by, meets_at}

-- ---- which processes may lead to themselves

-- those of the first so many are told
pub record AreTold (d : Design) (selfish : List Bool) (n : ℕ) : Type 0 where
  pub many : length selfish ≡ n
  pub each : (p : ℕ) → p < n → get_or selfish p false ≡ is_assign (kind_of d p)

pub told_none : (d : Design) → AreTold d [] 0
told_none d = record { many = refl; each = λ p lt. absurd (omega (arith, lt)) }

pub told_more : (d : Design) (old new : List Bool) (n : ℕ) (mine : Bool) → new ≡ old ++ mine ∷ [] → mine ≡ is_assign (kind_of d n) → AreTold d old n
    → AreTold d new (n + 1)
told_more d old new n mine e is t = record {
  many = ap length e ∙ (length_push old mine ∙ ap (λ k. k + 1) t.many);
  each = λ p lt. ap (λ xs. get_or xs p false) e ∙ elim (cases_lt p n) [
    | inl less ↦ get_or_append_left old (mine ∷ []) false p (omega (arith, less, t.many)) ∙ t.each p less
    | inr more ↦ (let same : p ≡ n = omega (arith, more, lt) in
        get_or_push old mine false p (omega (arith, same, t.many)) ∙ (is ∙ ap (λ q. is_assign (kind_of d q)) (sym same)))
  ];
}

-- ---- column by column

module _ (g drivers readers : Graph) (selfish : List Bool) where
  pub stand_none : ((i x : ℕ) → HasEdge g i x → x < length g) → Stands (length g) (LeadsBy g drivers readers selfish 0) g
  stand_none ends = record {
    many = omega arith;
    ends = ends;
    inner = λ p q pl ql h. inl h;
    through = λ p v q pl vn a b. absurd (let lt : v < length g = edge_inside g v q b in omega (arith, lt, vn));
    back = λ v q vn h. ends v q h;
    inside = λ p q l. elim l [ inl h ↦ (edge_inside g p q h, ends p q h) | inr t ↦ absurd (omega (arith, t.1)) ];
    way = λ p q l. elim l [ inl h ↦ inl h | inr t ↦ absurd (omega (arith, t.1)) ];
  }

  pub stand_more : (n k : ℕ) (a b : Graph) → ((i x : ℕ) → HasEdge drivers i x → x < k) → ((i x : ℕ) → HasEdge readers i x → x < k)
      → Stands k (LeadsBy g drivers readers selfish n) a → Joins a b (next_of drivers n) (next_of readers n) selfish
      → Stands k (LeadsBy g drivers readers selfish (n + 1)) b
  stand_more n k a b below under s j =
      stands_as k (Either (LeadsBy g drivers readers selfish n) (next_of drivers n) (next_of readers n) selfish) (LeadsBy g drivers readers selfish (n + 1)) b
      (joins_stand k (LeadsBy g drivers readers selfish n) a b (next_of drivers n) (next_of readers n) selfish s (below n) (under n) j)
      (λ p q e. elim e [
        | inl l ↦ elim l [ inl h ↦ inl h | inr t ↦ inr (t.0, omega (arith, t.1), t.2) ]
        | inr t ↦ inr (n, omega arith, t)
      ])
      (λ p q l. elim l [
        | inl h ↦ inl (inl h)
        | inr t ↦ elim (cases_lt t.0 n) [
          | inl less ↦ inl (inr (t.0, less, t.2))
          | inr more ↦ (let e : t.0 ≡ n = omega (arith, more, t.1) in
              inr (subst (λ c. Through (next_of drivers c) (next_of readers c) selfish p q) e t.2))
        ]
      ])

-- ---- they are what leads to what

module _ (d : Design) (us : List Uses) (o : Owners) (l : Links) (selfish : List Bool) (owners : AreOwners d o) (links : AreLinks d us l)
    (own : AreSelfish d selfish) (uses : (p : ℕ) → p < length d.processes → AreUsesOf d p (get_or us p no_uses)) where
  uses_at : (q : ℕ) → IsTrue (settles (kind_of d q)) → AreUsesOf d q (get_or us q no_uses)
  uses_at q settled = uses q (settles_below d q settled)

  span_at : (q : ℕ) (s : Span) → ReadsSpan d us q s → IsSpanOf d.vars s
  span_at q s r = subst (IsSpanOf d.vars) r.1.2 ((uses_at q r.0).reads_in r.1.0 s r.1.1)

  pub next_leads : (p q : ℕ) → HasEdge l.next.items p q → Leads d p q
  next_leads p q h =
      let r : Direct d (ReadsSpan d us) p q = links.next_only p q h in
      leads_by d (get_or us q no_uses) q p r.1 r.2.0 (uses_at q r.2.0) r.0 r.2.1 r.4

  may : (p q : ℕ) → IsTrue (settles (kind_of d p)) → (p ≢ q) ⊎ (get_or selfish p false ≡ true) → MayLead d p q
  may p q settled h = elim h [ inl apart ↦ inl apart | inr mine ↦ inr (sym (own.each p (settles_below d p settled)) ∙ mine) ]

  -- a column that p drives and q reads
  column_leads : (p q c : ℕ) → Through (next_of o.columns c) (next_of l.readers c) selfish p q → Leads d p q
  column_leads p q c t =
      let r : Reading d (ReadsSpan d us) c q = links.readers_only c q t.1 in
      let i : IsSpanOf d.vars r.0 = span_at q r.0 r.1 in
      let by : DrivesIn d p r.0 = by_column d o owners r.0 i q r.2 p c r.3 t.0 in
      leads_by d (get_or us q no_uses) q p r.0 r.1.0 (uses_at q r.1.0) (may p q by.settled.kind t.2) r.1.1 by

  to_leads : (n p q : ℕ) → LeadsBy l.next.items o.columns l.readers selfish n p q → Leads d p q
  to_leads n p q e = elim e [ inl h ↦ next_leads p q h | inr t ↦ column_leads p q t.0 t.2 ]

  from_leads : (p q : ℕ) → Leads d p q → LeadsBy l.next.items o.columns l.readers selfish (length o.columns) p q
  from_leads p q h =
      let m : Meeting d (get_or us q no_uses) p = meets_at d (get_or us q no_uses) q p (uses_at q h.to) h in
      elim (cases_eq m.span.word_end (m.span.word + 1)) [
        | inl one ↦ inl (links.next_there p q (h.apart, m.span, (h.to, m.stands), one, m.by))
        | inr many ↦ (
            let c : ℕ = column_number (slots_of d) m.by.bit.var m.by.bit.place in
            let drives : HasEdge o.columns c p = owners.to_column m.by.bit p m.by.here m.by.settled in
            let reads : HasEdge l.readers c q = links.readers_there c q
            (m.span, (h.to, m.stands), many, among_columns (slots_of d) m.span m.by.bit m.by.within) in
            inr (
              c,
              edge_inside o.columns c p drives,
              (
                drives,
                reads,
                elim h.apart [
                  | inl apart ↦ inl apart
                  | inr assign ↦ inr (own.each p (settles_below d p h.from) ∙ assign)
                ],
              ),
            ))
      ]

  pub columns_lead : (g : Graph)
      → Stands (length d.processes) (LeadsBy l.next.items o.columns l.readers selfish (length o.columns)) g
      → Stands (length d.processes) (Leads d) g
  columns_lead g s = stands_as (length d.processes)
      (LeadsBy l.next.items o.columns l.readers selfish (length o.columns)) (Leads d) g s (to_leads (length o.columns)) from_leads

  pub next_below : (i x : ℕ) → HasEdge l.next.items i x → x < length l.next.items
  next_below i x h =
      let lt : x < length d.processes = settles_below d x (next_leads i x h).to in omega (arith, lt, links.sized.next)

  pub readers_below : (i x : ℕ) → HasEdge l.readers i x → x < length d.processes
  readers_below i x h = let r : Reading d (ReadsSpan d us) i x = links.readers_only i x h in settles_below d x r.1.0
