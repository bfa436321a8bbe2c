-- What a table of owners notes, one after the other.
use Rattle.std.proofs.Common.{◌≡◌, ◌∙◌, sym, ap, subst, refl, ℕ, ◌+◌, ◌<◌, inl, inr, List, [], ◌∷◌, ◌++◌, length, get_or, take}
use Rattle.std.proofs.lemmas.List.{take_more}
use Rattle.std.proofs.lemmas.List.Elements.{Contains-append_left, Contains-push, Contains-push_cases}
use Rattle.std.specs.Prelude.{◌⊎◌, Contains}
use Rattle.flow_graph.specs.Graph.{Graph}
use Rattle.flow_marks.specs.declared.slot.Slot.{Slot}
use Rattle.flow_marks.specs.declared.span.Span.{Span}
use Rattle.flow_marks.specs.Slots.{before, size, wide}
use Rattle.flow_edges.specs.declared.owners.Owners.{Owners}
use Rattle.flow_hubs.specs.Adding.{Adds}
use Rattle.flow_edges.specs.Stretches.{AreNumbered, IsAmong, bits_of, columns_of}
use Rattle.flow_edges.specs.Owning.{IsTable, IsOfWord, Notes}
use Rattle.flow_hubs.proofs.Growing.{adds_none, adds_as, adds_more}

-- what spans name of words, of columns as a whole, and of columns
abbrev pub InBits : List Slot → (ℕ → Span → Type 0) → ℕ → ℕ → Type 0
InBits slots S i x = (s : Span) × S x s × IsOfWord s × IsAmong (bits_of slots s) i

abbrev pub InWhole : List Slot → (ℕ → Span → Type 0) → ℕ → ℕ → Type 0
InWhole slots S i x = (s : Span) × S x s × (IsOfWord s → ⊥) × IsAmong (columns_of slots s) i

abbrev pub InColumns : List Slot → (ℕ → Span → Type 0) → ℕ → ℕ → Type 0
InColumns slots S i x = (s : Span) × S x s × IsAmong (columns_of slots s) i

pub table_kept : (old new : Owners) (S : ℕ → Span → Type 0) → IsTable old → Notes old new S → IsTable new
table_kept old new S t n = record {
  numbered = subst AreNumbered (sym n.slots) t.numbered;
  bits = n.bits.as_many ∙ (t.bits ∙ ap (λ slots. before size slots (length slots)) (sym n.slots));
  whole = n.whole.as_many ∙ (t.whole ∙ ap (λ slots. before wide slots (length slots)) (sym n.slots));
  columns = n.columns.as_many ∙ (t.columns ∙ ap (λ slots. before wide slots (length slots)) (sym n.slots));
}

pub notes_none : (o : Owners) (S : ℕ → Span → Type 0) → ((x : ℕ) (s : Span) → S x s → ⊥) → Notes o o S
notes_none o S none = record {
  slots = refl;
  bits = adds_none o.bits (InBits o.slots.items S) (λ i x r. none x r.0 r.1);
  whole = adds_none o.whole (InWhole o.slots.items S) (λ i x r. none x r.0 r.1);
  columns = adds_none o.columns (InColumns o.slots.items S) (λ i x r. none x r.0 r.1);
}

pub notes_as : (a b : Owners) (R T : ℕ → Span → Type 0) → Notes a b R → ((x : ℕ) (s : Span) → R x s → T x s) → ((x : ℕ) (s : Span) → T x s → R x s)
    → Notes a b T
notes_as a b R T h to from = record {
  slots = h.slots;
  bits = adds_as a.bits b.bits (InBits a.slots.items R) (InBits a.slots.items T) h.bits
      (λ i x r. (r.0, to x r.0 r.1, r.2, r.3)) (λ i x r. (r.0, from x r.0 r.1, r.2, r.3));
  whole = adds_as a.whole b.whole (InWhole a.slots.items R) (InWhole a.slots.items T) h.whole
      (λ i x r. (r.0, to x r.0 r.1, r.2, r.3)) (λ i x r. (r.0, from x r.0 r.1, r.2, r.3));
  columns = adds_as a.columns b.columns (InColumns a.slots.items R) (InColumns a.slots.items T) h.columns
      (λ i x r. (r.0, to x r.0 r.1, r.2)) (λ i x r. (r.0, from x r.0 r.1, r.2));
}

-- one after the other
pub notes_more : (a b c : Owners) (R S T : ℕ → Span → Type 0) → Notes a b R → Notes b c S
    → ((x : ℕ) (s : Span) → R x s → T x s) → ((x : ℕ) (s : Span) → S x s → T x s) → ((x : ℕ) (s : Span) → T x s → R x s ⊎ S x s) → Notes a c T
notes_more a b c R S T first then from_first from_then either = record {
  slots = then.slots ∙ first.slots;
  bits = adds_more a.bits b.bits c.bits (InBits a.slots.items R) (InBits a.slots.items S) (InBits a.slots.items T) first.bits
      (subst (λ slots. Adds b.bits c.bits (InBits slots S)) first.slots then.bits)
      (λ i x r. (r.0, from_first x r.0 r.1, r.2, r.3)) (λ i x r. (r.0, from_then x r.0 r.1, r.2, r.3))
      (λ i x r. elim (either x r.0 r.1) [ inl e ↦ inl (r.0, e, r.2, r.3) | inr e ↦ inr (r.0, e, r.2, r.3) ]);
  whole = adds_more a.whole b.whole c.whole (InWhole a.slots.items R) (InWhole a.slots.items S) (InWhole a.slots.items T) first.whole
      (subst (λ slots. Adds b.whole c.whole (InWhole slots S)) first.slots then.whole)
      (λ i x r. (r.0, from_first x r.0 r.1, r.2, r.3)) (λ i x r. (r.0, from_then x r.0 r.1, r.2, r.3))
      (λ i x r. elim (either x r.0 r.1) [ inl e ↦ inl (r.0, e, r.2, r.3) | inr e ↦ inr (r.0, e, r.2, r.3) ]);
  columns = adds_more a.columns b.columns c.columns (InColumns a.slots.items R) (InColumns a.slots.items S) (InColumns a.slots.items T)
      first.columns (subst (λ slots. Adds b.columns c.columns (InColumns slots S)) first.slots then.columns)
      (λ i x r. (r.0, from_first x r.0 r.1, r.2)) (λ i x r. (r.0, from_then x r.0 r.1, r.2))
      (λ i x r. elim (either x r.0 r.1) [ inl e ↦ inl (r.0, e, r.2) | inr e ↦ inr (r.0, e, r.2) ]);
}

-- ---- one span

module _ (old new : Owners) (span : Span) (p : ℕ) where
  abbrev One : ℕ → Span → Type 0
  One x s = (x ≡ p) × (s ≡ span)

  in_columns : Adds old.columns new.columns (λ i x. IsAmong (columns_of old.slots.items span) i × (x ≡ p))
      → Adds old.columns new.columns (InColumns old.slots.items One)
  in_columns h = adds_as old.columns new.columns (λ i x. IsAmong (columns_of old.slots.items span) i × (x ≡ p))
      (InColumns old.slots.items One) h (λ i x r. (span, (r.1, refl), r.0))
      (λ i x r. (subst (λ (s : Span). IsAmong (columns_of old.slots.items s) i) r.1.1 r.2, r.1.0))

  -- a span of one word
  pub notes_word : new.slots.items ≡ old.slots.items → new.whole ≡ old.whole → IsOfWord span
      → Adds old.bits new.bits (λ i x. IsAmong (bits_of old.slots.items span) i × (x ≡ p))
      → Adds old.columns new.columns (λ i x. IsAmong (columns_of old.slots.items span) i × (x ≡ p))
      → Notes old new One
  notes_word slots whole one bits columns = record {
    slots = slots;
    bits = adds_as old.bits new.bits (λ i x. IsAmong (bits_of old.slots.items span) i × (x ≡ p)) (InBits old.slots.items One) bits
        (λ i x r. (span, (r.1, refl), one, r.0))
        (λ i x r. (subst (λ (s : Span). IsAmong (bits_of old.slots.items s) i) r.1.1 r.3, r.1.0));
    whole = subst (λ (g : Graph). Adds old.whole g (InWhole old.slots.items One)) (sym whole)
        (adds_none old.whole (InWhole old.slots.items One) (λ i x r. r.2 (subst IsOfWord (sym r.1.1) one)));
    columns = in_columns columns;
  }

  -- a span of all words, of which there are several
  pub notes_whole : new.slots.items ≡ old.slots.items → new.bits ≡ old.bits → (IsOfWord span → ⊥)
      → Adds old.whole new.whole (λ i x. IsAmong (columns_of old.slots.items span) i × (x ≡ p))
      → Adds old.columns new.columns (λ i x. IsAmong (columns_of old.slots.items span) i × (x ≡ p))
      → Notes old new One
  notes_whole slots bits many whole columns = record {
    slots = slots;
    bits = subst (λ (g : Graph). Adds old.bits g (InBits old.slots.items One)) (sym bits)
        (adds_none old.bits (InBits old.slots.items One) (λ i x r. many (subst IsOfWord r.1.1 r.2)));
    whole = adds_as old.whole new.whole (λ i x. IsAmong (columns_of old.slots.items span) i × (x ≡ p)) (InWhole old.slots.items One) whole
        (λ i x r. (span, (r.1, refl), many, r.0))
        (λ i x r. (subst (λ (s : Span). IsAmong (columns_of old.slots.items s) i) r.1.1 r.3, r.1.0));
    columns = in_columns columns;
  }

-- ---- several spans

abbrev pub no_span : Span
no_span = record { var = 0; word = 0; word_end = 0; place = 0; place_end = 0 }

pub one_more : (spans : List Span) (n : ℕ) (s : Span) → n < length spans → Contains (take (n + 1) spans) s
    → Contains (take n spans) s ⊎ (s ≡ get_or spans n no_span)
one_more spans n s lt h =
    elim (Contains-push_cases (take n spans) (get_or spans n no_span) s (subst (λ xs. Contains xs s) (take_more spans n no_span lt) h)) [
      | inl old ↦ inl old
      | inr is ↦ inr (sym is)
    ]

pub one_kept : (spans : List Span) (n : ℕ) (s : Span) → n < length spans → Contains (take n spans) s → Contains (take (n + 1) spans) s
one_kept spans n s lt h =
    subst (λ xs. Contains xs s) (sym (take_more spans n no_span lt)) (Contains-append_left (take n spans) (get_or spans n no_span ∷ []) s h)

pub one_there : (spans : List Span) (n : ℕ) (s : Span) → n < length spans → s ≡ get_or spans n no_span → Contains (take (n + 1) spans) s
one_there spans n s lt e =
    subst (λ xs. Contains xs s) (sym (take_more spans n no_span lt))
    (subst (λ t. Contains (take n spans ++ get_or spans n no_span ∷ []) t) (sym e) (Contains-push (take n spans) (get_or spans n no_span)))

pub notes_span : (a b c : Owners) (spans : List Span) (n p : ℕ) → n < length spans
    → Notes a b (λ x s. (x ≡ p) × Contains (take n spans) s) → Notes b c (λ x s. (x ≡ p) × (s ≡ get_or spans n no_span))
    → Notes a c (λ x s. (x ≡ p) × Contains (take (n + 1) spans) s)
notes_span a b c spans n p lt first then =
    notes_more a b c (λ x s. (x ≡ p) × Contains (take n spans) s) (λ x s. (x ≡ p) × (s ≡ get_or spans n no_span))
    (λ x s. (x ≡ p) × Contains (take (n + 1) spans) s) first then
    (λ x s r. (r.0, one_kept spans n s lt r.1))
    (λ x s r. (r.0, one_there spans n s lt r.1))
    (λ x s t. elim (one_more spans n s lt t.1) [ inl old ↦ inl (t.0, old) | inr is ↦ inr (t.0, is) ])
