-- The graph of what leads to what, span by span.
use Rattle.std.proofs.Common.{◌≡◌, ◌∙◌, sym, ap, subst, ℕ, ◌+◌, ◌<◌, ◌≤◌, arith, inl, inr, true, List, [], ◌∷◌, ◌++◌, length, get_or, take, IsTrue}
use Rattle.std.specs.Prelude.{Contains}
use Rattle.std.proofs.lemmas.Bool.{cases_lt}
use Rattle.std.proofs.lemmas.List.{take_more}
use Rattle.std.proofs.lemmas.List.Elements.{Contains-append_left, Contains-push, Contains-push_cases}
use Rattle.design_tree.specs.declared.design.Design.{Design}
use Rattle.circuit_run.specs.States.{Bit}
use Rattle.circuit_run.specs.Kinds.{settles}
use Rattle.design_meaning.specs.States.{IsBitOf, var_of}
use Rattle.design_meaning.specs.Processes.{kind_of}
use Rattle.design_meaning.specs.Flow.{Leads}
use Rattle.flow_graph.specs.Graph.{Graph, HasEdge, next_of}
use Rattle.flow_marks.specs.declared.span.Span.{Span}
use Rattle.flow_marks.specs.Slots.{IsIn, IsSpan, before, is_in, number, size, wide}
use Rattle.flow_marks.proofs.Kept.{bit_of}
use Rattle.flow_marks.proofs.Tests.{is_within}
use Rattle.flow_spans.specs.Reads.{IsSpanOf}
use Rattle.flow_uses.specs.declared.uses.Uses.{Uses}
use Rattle.flow_uses.specs.Uses.{AreUsesOf}
use Rattle.flow_edges.specs.declared.owners.Owners.{Owners}
use Rattle.flow_edges.specs.declared.stretch.Stretch.{Stretch}
use Rattle.flow_hubs.specs.Adding.{Adds}
use Rattle.flow_edges.specs.Stretches.{AreNumbered, IsAmong, bits_of, columns_of, column_number}
use Rattle.flow_edges.specs.Owning.{AreOwners, IsOfWord, Settles, slots_of}
use Rattle.flow_edges.specs.Linking.{DrivesIn, MayLead, OfRows, OfSpan}
use Rattle.flow_hubs.proofs.Growing.{adds_none, adds_as, adds_more}
use Rattle.flow_spans.proofs.OfVars.{bit_from, span_in}
use Rattle.flow_edges.proofs.Numbers.{IsInside, among_bits, among_columns, bit_stretch, bit_with, column_stretch, column_with}
use Rattle.flow_edges.proofs.Owned.{HasIt, one_has, spans_have}

-- ---- a row of processes

-- those of the first so many that may lead to q
abbrev pub Each : Design → List ℕ → ℕ → ℕ → ℕ → ℕ → Type 0
Each d from q n i x = Contains (take n from) i × (x ≡ q) × MayLead d i x

pub each_more : (d : Design) (from : List ℕ) (q n : ℕ) (a b c : Graph) → n < length from → Adds a b (Each d from q n)
    → Adds b c (λ i x. (i ≡ get_or from n 0) × (x ≡ q) × MayLead d i x) → Adds a c (Each d from q (n + 1))
each_more d from q n a b c lt first then =
    adds_more a b c (Each d from q n) (λ i x. (i ≡ get_or from n 0) × (x ≡ q) × MayLead d i x) (Each d from q (n + 1)) first then
    (λ i x r. (subst (λ xs. Contains xs i) (sym more) (Contains-append_left (take n from) (get_or from n 0 ∷ []) i r.0), r.1, r.2))
    (λ i x r. (
      subst (λ xs. Contains xs i) (sym more) (subst (λ y. Contains (take n from ++ get_or from n 0 ∷ []) y) (sym r.0)
          (Contains-push (take n from) (get_or from n 0))),
      r.1,
      r.2,
    ))
    (λ i x t. elim (Contains-push_cases (take n from) (get_or from n 0) i (subst (λ xs. Contains xs i) more t.0)) [
      | inl old ↦ inl (old, t.1, t.2)
      | inr is ↦ inr (sym is, t.1, t.2)
    ])
  where
    more : take (n + 1) from ≡ take n from ++ get_or from n 0 ∷ []
    more = take_more from n 0 lt

-- ---- rows

-- those of some rows that may lead to q
abbrev pub InRows : Design → Graph → ℕ → ℕ → ℕ → ℕ → ℕ → Type 0
InRows d rows low high q i x = (x ≡ q) × MayLead d i x × (at : ℕ) × IsAmong (record { from = low; to = high }) at × HasEdge rows at i

pub rows_none : (d : Design) (rows g : Graph) (low q : ℕ) → Adds g g (InRows d rows low low q)
rows_none d rows g low q = adds_none g (InRows d rows low low q) (λ i x r. absurd (omega (arith, r.3.from, r.3.to)))

pub rows_more : (d : Design) (rows : Graph) (low at q : ℕ) (a b c : Graph) → low ≤ at → Adds a b (InRows d rows low at q)
    → Adds b c (λ i x. Contains (next_of rows at) i × (x ≡ q) × MayLead d i x) → Adds a c (InRows d rows low (at + 1) q)
rows_more d rows low at q a b c le first then =
    adds_more a b c (InRows d rows low at q) (λ i x. Contains (next_of rows at) i × (x ≡ q) × MayLead d i x) (InRows d rows low (at + 1) q) first then
    (λ i x r. (r.0, r.1, r.2, record { from = r.3.from; to = omega (arith, r.3.to) }, r.4))
    (λ i x r. (r.1, r.2, at, record { from = le; to = omega arith }, r.0))
    (λ i x t. elim (cases_lt t.2 at) [
      | inl less ↦ inl (t.0, t.1, t.2, record { from = t.3.from; to = less }, t.4)
      | inr more ↦ (let e : t.2 ≡ at = omega (arith, more, t.3.to) in inr (subst (λ j. HasEdge rows j i) e t.4, t.0, t.1))
    ])

pub rows_all : (d : Design) (rows : Graph) (among : Stretch) (at q : ℕ) (a b : Graph) → at ≡ among.to → Adds a b (InRows d rows among.from at q)
    → Adds a b (OfRows d rows among q)
rows_all d rows among at q a b e h =
    adds_as a b (InRows d rows among.from at q) (OfRows d rows among q) h
    (λ i x r. (r.0, r.1, r.2, record { from = r.3.from; to = omega (arith, r.3.to, e) }, r.4))
    (λ i x r. (r.0, r.1, r.2, record { from = r.3.from; to = omega (arith, r.3.to, e) }, r.4))

-- what the code reads are these rows and this stretch
pub rows_are : (d : Design) (g rows : Graph) (r among : Stretch) (q : ℕ) (a b : Graph) → g ≡ rows → r ≡ among → Adds a b (OfRows d g r q)
    → Adds a b (OfRows d rows among q)
rows_are d g rows r among q a b e f h =
    subst (λ (t : Stretch). Adds a b (OfRows d rows t q)) f (subst (λ (u : Graph). Adds a b (OfRows d u r q)) e h)

-- ---- one span

module _ (d : Design) (o : Owners) (owners : AreOwners d o) (s : Span) (i : IsSpanOf d.vars s) (q : ℕ) where
  pub in_slots : IsSpan (slots_of d) s
  in_slots = span_in d.vars s i

  numbered : AreNumbered (slots_of d)
  numbered = subst AreNumbered owners.slots owners.table.numbered

  pub columns_inside : (r : Stretch) → r ≡ columns_of (slots_of d) s → IsInside r (before wide o.slots.items (length o.slots.items))
  columns_inside r e = subst (λ slots. IsInside r (before wide slots (length slots))) (sym owners.slots) (column_stretch (slots_of d) s r e numbered in_slots)

  pub columns_within : (r : Stretch) → r ≡ columns_of (slots_of d) s → IsInside r (before wide (slots_of d) (length (slots_of d)))
  columns_within r e = column_stretch (slots_of d) s r e numbered in_slots

  pub bits_inside : (r : Stretch) → IsOfWord s → r ≡ bits_of (slots_of d) s → IsInside r (before size o.slots.items (length o.slots.items))
  bits_inside r one e = subst (λ slots. IsInside r (before size slots (length slots))) (sym owners.slots) (bit_stretch (slots_of d) s r e numbered in_slots one)

  place_here : (w k : ℕ) → w < (var_of d s.var).words → k < s.place_end → IsBitOf d (bit_of s.var w k)
  place_here w k words high = record { of_variable = i.of_variable; of_word = words; in_width = omega (arith, high, i.in_width) }

  -- a span of one word
  module _ (one : IsOfWord s) where
    by_bit : (p at : ℕ) → IsAmong (bits_of (slots_of d) s) at → HasEdge o.bits at p → DrivesIn d p s
    by_bit p at a h =
        let b : (b : Bit) × IsIn (slots_of d) b × (is_in s b ≡ true) × (number (slots_of d) b ≡ at) = bit_with (slots_of d) s at in_slots one a in
        let here : IsBitOf d b.0 = bit_from d.vars b.0 b.1 in
        record {
          bit = b.0;
          here = here;
          within = b.2;
          settled = owners.from_bit b.0 p here (subst (λ j. HasEdge o.bits j p) (sym b.3) h);
        }

    by_whole : (p at : ℕ) → IsAmong (columns_of (slots_of d) s) at → HasEdge o.whole at p → DrivesIn d p s
    by_whole p at a h =
        let k : (c : ℕ) × (s.place ≤ c) × (c < s.place_end) × (column_number (slots_of d) s.var c ≡ at) = column_with (slots_of d) s at a in
        let here : IsBitOf d (bit_of s.var s.word k.0) = place_here s.word k.0 (omega (arith, i.some_word, i.of_words)) k.2 in
        record {
          bit = bit_of s.var s.word k.0;
          here = here;
          within = is_within s s.word k.0 (omega arith) i.some_word k.1 k.2;
          settled = owners.from_whole (bit_of s.var s.word k.0) p here (subst (λ j. HasEdge o.whole j p) (sym k.3) h);
        }

    pub span_word : (a b c : Graph) → Adds a b (OfRows d o.bits (bits_of (slots_of d) s) q)
        → Adds b c (OfRows d o.whole (columns_of (slots_of d) s) q) → Adds a c (OfSpan d s q)
    span_word a b c first then =
        adds_more a b c (OfRows d o.bits (bits_of (slots_of d) s) q) (OfRows d o.whole (columns_of (slots_of d) s) q) (OfSpan d s q) first then
        (λ p x r. (r.0, r.1, by_bit p r.2 r.3 r.4))
        (λ p x r. (r.0, r.1, by_whole p r.2 r.3 r.4))
        (λ p x t. elim (owners.to_bit t.2.bit p t.2.here t.2.settled) [
          | inl e ↦ inl (t.0, t.1, number (slots_of d) t.2.bit, among_bits (slots_of d) s t.2.bit one t.2.within, e)
          | inr e ↦ inr (t.0, t.1, column_number (slots_of d) t.2.bit.var t.2.bit.place, among_columns (slots_of d) s t.2.bit t.2.within, e)
        ])

  -- a span of all words
  module _ (many : IsOfWord s → ⊥) where
    all_words : (s.word ≡ 0) × (s.word_end ≡ (var_of d s.var).words)
    all_words = elim i.one_or_all [ inl one ↦ absurd (many one) | inr all ↦ all ]

    pub by_column : (p at : ℕ) → IsAmong (columns_of (slots_of d) s) at → HasEdge o.columns at p → DrivesIn d p s
    by_column p at a h =
        let k : (c : ℕ) × (s.place ≤ c) × (c < s.place_end) × (column_number (slots_of d) s.var c ≡ at) = column_with (slots_of d) s at a in
        let b : (b : Bit) × (b.var ≡ s.var) × (b.place ≡ k.0) × IsBitOf d b × Settles d p b =
        owners.from_column s.var k.0 p i.of_variable (omega (arith, k.2, i.in_width)) (subst (λ j. HasEdge o.columns j p) (sym k.3) h) in
        let words : (var_of d b.0.var).words ≡ s.word_end = ap (λ v. (var_of d v).words) b.1 ∙ sym all_words.1 in
        record {
          bit = b.0;
          here = b.3;
          within = subst (λ v. is_in s (bit_of v b.0.word b.0.place) ≡ true) (sym b.1)
              (is_within s b.0.word b.0.place (omega (arith, all_words.0)) (omega (arith, words, b.3.of_word)) (omega (arith, k.1, b.2))
              (omega (arith, k.2, b.2)));
          settled = b.4;
        }

-- ---- one process

pub leads_by : (d : Design) (u : Uses) (q p : ℕ) (s : Span) → IsTrue (settles (kind_of d q)) → AreUsesOf d q u → MayLead d p q → Contains u.reads s
    → DrivesIn d p s → Leads d p q
leads_by d u q p s settled uses may stands by = record {
  from = by.settled.kind;
  to = settled;
  apart = may;
  along = by.bit;
  here = by.here;
  driven = by.settled.driven;
  read = sym (uses.reads by.bit by.here) ∙ spans_have u.reads s by.bit stands by.within;
}

-- a span that q reads and p drives
pub record Meeting (d : Design) (u : Uses) (p : ℕ) : Type 0 where
  pub span : Span
  pub stands : Contains u.reads span
  pub by : DrivesIn d p span

pub meets_at : (d : Design) (u : Uses) (q p : ℕ) → AreUsesOf d q u → Leads d p q → Meeting d u p
meets_at d u q p uses l =
    let s : HasIt u.reads l.along = one_has u.reads l.along (uses.reads l.along l.here ∙ l.read) in
    record {
      span = s.span;
      stands = s.stands;
      by = record { bit = l.along; here = l.here; within = s.within; settled = record { kind = l.from; driven = l.driven } };
    }
