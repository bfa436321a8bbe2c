-- What is noted of what processes read, one after the other.
use Rattle.std.proofs.Common.{◌≡◌, ◌∙◌, sym, subst, refl, ℕ, ◌+◌, ◌<◌, ◌≤◌, arith, inl, inr, List, length, get_or, take, IsTrue}
use Rattle.std.specs.Prelude.{◌⊎◌, Contains}
use Rattle.std.proofs.lemmas.Bool.{cases_lt}
use Rattle.design_tree.specs.declared.design.Design.{Design}
use Rattle.circuit_run.specs.Kinds.{settles}
use Rattle.design_meaning.specs.Processes.{kind_of}
use Rattle.flow_graph.specs.Graph.{Graph, HasEdge}
use Rattle.flow_hubs.specs.Adding.{Adds}
use Rattle.flow_hubs.proofs.Growing.{adds_none, adds_as, adds_more}
use Rattle.flow_marks.specs.declared.span.Span.{Span}
use Rattle.flow_uses.specs.declared.uses.Uses.{Uses}
use Rattle.flow_uses.specs.Uses.{no_uses}
use Rattle.flow_edges.specs.declared.links.Links.{Links}
use Rattle.flow_edges.specs.Stretches.{IsAmong, columns_of}
use Rattle.flow_edges.specs.Owning.{IsOfWord, slots_of}
use Rattle.flow_edges.specs.Linking.{AreLinks, AreSized, Direct, DrivesIn, Grows, OfSpan, Reading, ReadsSpan}
use Rattle.flow_edges.proofs.Noting.{no_span, one_more, one_kept, one_there}
use Rattle.flow_edges.proofs.Owned.{settles_below}

module _ (d : Design) where
  pub grows_none : (l : Links) (S : ℕ → Span → Type 0) → ((x : ℕ) (s : Span) → S x s → ⊥) → Grows d l l S
  grows_none l S none = record {
    next = adds_none l.next.items (Direct d S) (λ i x r. none x r.1 r.2);
    readers = adds_none l.readers (Reading d S) (λ i x r. none x r.0 r.1);
  }

  pub grows_more : (a b c : Links) (R S T : ℕ → Span → Type 0) → Grows d a b R → Grows d b c S
      → ((x : ℕ) (s : Span) → R x s → T x s) → ((x : ℕ) (s : Span) → S x s → T x s) → ((x : ℕ) (s : Span) → T x s → R x s ⊎ S x s) → Grows d a c T
  grows_more a b c R S T first then from_first from_then either = record {
    next = adds_more a.next.items b.next.items c.next.items (Direct d R) (Direct d S) (Direct d T) first.next then.next
        (λ i x r. (r.0, r.1, from_first x r.1 r.2, r.3, r.4)) (λ i x r. (r.0, r.1, from_then x r.1 r.2, r.3, r.4))
        (λ i x t. elim (either x t.1 t.2) [ inl e ↦ inl (t.0, t.1, e, t.3, t.4) | inr e ↦ inr (t.0, t.1, e, t.3, t.4) ]);
    readers = adds_more a.readers b.readers c.readers (Reading d R) (Reading d S) (Reading d T) first.readers then.readers
        (λ i x r. (r.0, from_first x r.0 r.1, r.2, r.3)) (λ i x r. (r.0, from_then x r.0 r.1, r.2, r.3))
        (λ i x t. elim (either x t.0 t.1) [ inl e ↦ inl (t.0, e, t.2, t.3) | inr e ↦ inr (t.0, e, t.2, t.3) ]);
  }

  pub grows_as : (a b : Links) (R T : ℕ → Span → Type 0) → Grows d a b R → ((x : ℕ) (s : Span) → R x s → T x s) → ((x : ℕ) (s : Span) → T x s → R x s)
      → Grows d a b T
  grows_as a b R T h to from = record {
    next = adds_as a.next.items b.next.items (Direct d R) (Direct d T) h.next
        (λ i x r. (r.0, r.1, to x r.1 r.2, r.3, r.4)) (λ i x r. (r.0, r.1, from x r.1 r.2, r.3, r.4));
    readers = adds_as a.readers b.readers (Reading d R) (Reading d T) h.readers
        (λ i x r. (r.0, to x r.0 r.1, r.2, r.3)) (λ i x r. (r.0, from x r.0 r.1, r.2, r.3));
  }

  pub still_sized : (a b : Links) (S : ℕ → Span → Type 0) → AreSized d a → Grows d a b S → AreSized d b
  still_sized a b S s g = record { next = g.next.as_many ∙ s.next; readers = g.readers.as_many ∙ s.readers }

  -- ---- one span

  module _ (a b : Links) (span : Span) (q : ℕ) where
    abbrev One : ℕ → Span → Type 0
    One x s = (x ≡ q) × (s ≡ span)

    pub grows_word : IsOfWord span → b.readers ≡ a.readers → Adds a.next.items b.next.items (OfSpan d span q) → Grows d a b One
    grows_word one same h = record {
      next = adds_as a.next.items b.next.items (OfSpan d span q) (Direct d One) h
          (λ i x r. (r.1, span, (r.0, refl), one, r.2))
          (λ i x t. (t.2.0, t.0, subst (DrivesIn d i) t.2.1 t.4));
      readers = subst (λ (g : Graph). Adds a.readers g (Reading d One)) (sym same)
          (adds_none a.readers (Reading d One) (λ i x r. r.2 (subst IsOfWord (sym r.1.1) one)));
    }

    pub grows_all : (IsOfWord span → ⊥) → b.next.items ≡ a.next.items
        → Adds a.readers b.readers (λ i x. IsAmong (columns_of (slots_of d) span) i × (x ≡ q)) → Grows d a b One
    grows_all many same h = record {
      next = subst (λ (g : Graph). Adds a.next.items g (Direct d One)) (sym same)
          (adds_none a.next.items (Direct d One) (λ i x r. many (subst IsOfWord r.2.1 r.3)));
      readers = adds_as a.readers b.readers (λ i x. IsAmong (columns_of (slots_of d) span) i × (x ≡ q)) (Reading d One) h
          (λ i x r. (span, (r.1, refl), many, r.0))
          (λ i x t. (subst (λ (s : Span). IsAmong (columns_of (slots_of d) s) i) t.1.1 t.3, t.1.0));
    }

  -- ---- several spans

  pub grows_span : (a b c : Links) (spans : List Span) (n q : ℕ) → n < length spans
      → Grows d a b (λ x s. (x ≡ q) × Contains (take n spans) s) → Grows d b c (λ x s. (x ≡ q) × (s ≡ get_or spans n no_span))
      → Grows d a c (λ x s. (x ≡ q) × Contains (take (n + 1) spans) s)
  grows_span a b c spans n q lt first then =
      grows_more a b c (λ x s. (x ≡ q) × Contains (take n spans) s) (λ x s. (x ≡ q) × (s ≡ get_or spans n no_span))
      (λ x s. (x ≡ q) × Contains (take (n + 1) spans) s) first then
      (λ x s r. (r.0, one_kept spans n s lt r.1))
      (λ x s r. (r.0, one_there spans n s lt r.1))
      (λ x s t. elim (one_more spans n s lt t.1) [ inl old ↦ inl (t.0, old) | inr is ↦ inr (t.0, is) ])

  -- ---- process by process

  -- of the first so many processes, those that settle and the spans that they read
  abbrev pub ReadBelow : List Uses → ℕ → ℕ → Span → Type 0
  ReadBelow us n x s = (x < n) × ReadsSpan d us x s

  pub none_read : (us : List Uses) (l : Links) → Grows d l l (ReadBelow us 0)
  none_read us l = grows_none l (ReadBelow us 0) (λ x s r. absurd (omega (arith, r.0)))

  pub one_read : (us : List Uses) (a b c : Links) (n : ℕ) (u : Uses) → u ≡ get_or us n no_uses → Grows d a b (ReadBelow us n)
      → Grows d b c (λ x s. (x ≡ n) × IsTrue (settles (kind_of d n)) × Contains u.reads s) → Grows d a c (ReadBelow us (n + 1))
  one_read us a b c n u is first then =
      grows_more a b c (ReadBelow us n) (λ x s. (x ≡ n) × IsTrue (settles (kind_of d n)) × Contains u.reads s) (ReadBelow us (n + 1)) first then
      (λ x s r. (omega (arith, r.0), r.1))
      (λ x s r. (omega (arith, r.0), subst (λ y. ReadsSpan d us y s) (sym r.0) (r.1, subst (λ (v : Uses). Contains v.reads s) is r.2)))
      (λ x s t. elim (cases_lt x n) [
        | inl less ↦ inl (less, t.1)
        | inr more ↦ (let e : x ≡ n = omega (arith, more, t.0) in
            let r : ReadsSpan d us n s = subst (λ y. ReadsSpan d us y s) e t.1 in
            inr (e, r.0, subst (λ (v : Uses). Contains v.reads s) (sym is) r.1))
      ])

  pub all_read : (us : List Uses) (a l : Links) (n : ℕ) → length d.processes ≤ n → AreSized d a → ((i x : ℕ) → HasEdge a.next.items i x → ⊥)
      → ((i x : ℕ) → HasEdge a.readers i x → ⊥) → Grows d a l (ReadBelow us n) → AreLinks d us l
  all_read us a l n end sized none unread g = record {
    sized = still_sized a l (ReadBelow us n) sized g;
    next_only = λ p q h. elim (g.next.only p q h) [ inl old ↦ absurd (none p q old) | inr r ↦ (r.0, r.1, r.2.1, r.3, r.4) ];
    next_there = λ p q r. g.next.there p q (r.0, r.1, (below q r.2.0, r.2), r.3, r.4);
    readers_only = λ i q h. elim (g.readers.only i q h) [ inl old ↦ absurd (unread i q old) | inr r ↦ (r.0, r.1.1, r.2, r.3) ];
    readers_there = λ i q r. g.readers.there i q (r.0, (below q r.1.0, r.1), r.2, r.3);
  }
    where
      below : (x : ℕ) → IsTrue (settles (kind_of d x)) → x < n
      below x settled = let lt : x < length d.processes = settles_below d x settled in omega (arith, lt, end)
