-- The table of a design: what its processes name are the bits that they drive.
use Rattle.std.proofs.Common.{◌≡◌, ◌∙◌, sym, ap, subst, refl, ℕ, ◌+◌, ◌<◌, ◌≤◌, ◌||◌, arith, inl, inr, Bool, true, false, List, length, get_or, IsTrue}
use Rattle.std.specs.Prelude.{◌⊎◌, All, Contains}
use Rattle.std.specs.List.{Any}
use Rattle.std.proofs.lemmas.Bool.{cases_lt, cases_eq}
use Rattle.std.proofs.lemmas.List.{get_or_past, get_or_default}
use Rattle.std.proofs.lemmas.List.Folds.{list_any_at, Any-from_list_any}
use Rattle.cov_types.specs.declared.kind.ProcessKind.{ProcessKind}
use Rattle.design_tree.specs.declared.design.Process.{Process}
use Rattle.design_tree.specs.declared.design.Design.{Design}
use Rattle.circuit_run.specs.States.{Bit}
use Rattle.circuit_run.specs.Kinds.{settles}
use Rattle.design_meaning.specs.States.{IsBitOf, var_of}
use Rattle.design_meaning.specs.Processes.{process_of, kind_of, no_process}
use Rattle.flow_graph.specs.Graph.{HasEdge}
use Rattle.flow_marks.specs.declared.slot.Slot.{Slot}
use Rattle.flow_marks.specs.declared.span.Span.{Span}
use Rattle.flow_marks.specs.Slots.{IsSpan, is_in, number, slot_of}
use Rattle.flow_marks.proofs.Kept.{bit_of}
use Rattle.flow_marks.proofs.Tests.{is_within}
use Rattle.flow_spans.specs.Reads.{IsSpanOf, has_bit}
use Rattle.flow_uses.specs.declared.uses.Uses.{Uses}
use Rattle.flow_uses.specs.Uses.{AreUsesOf, no_uses}
use Rattle.flow_edges.specs.declared.owners.Owners.{Owners}
use Rattle.flow_hubs.specs.Adding.{Adds}
use Rattle.flow_edges.specs.Stretches.{AreNumbered, IsAmong, columns_of, column_number}
use Rattle.flow_edges.specs.Owning.{AreOwners, IsBlank, IsNamed, IsOfWord, Notes, Settles, slots_of}
use Rattle.flow_spans.proofs.OfVars.{IsSlotOf, slot_is, slots_many, bit_in, span_in, spans_in}
use Rattle.flow_edges.proofs.Noting.{InBits, InWhole, InColumns, table_kept, notes_none, notes_more}
use Rattle.flow_edges.proofs.Numbers.{IsColumnOf, bit_among, among_bits, column_among, among_columns}

-- a process that settles is one of the design
pub settles_below : (d : Design) (p : ℕ) → IsTrue (settles (kind_of d p)) → p < length d.processes
settles_below d p h = elim (cases_lt p (length d.processes)) [
  | inl lt ↦ lt
  | inr past ↦ absurd (let e : process_of d p ≡ no_process = get_or_past d.processes p no_process past in
      let no : settles (kind_of d p) ≡ false = ap (λ (r : Process). settles r.kind) e in cc (h, no))
]

-- the kind of a process that the code reads
pub kind_read : (d : Design) (ps : List Process) (p : ℕ) (r : Process) → ps ≡ d.processes → p < length d.processes → (get_or ps p r).kind ≡ kind_of d p
kind_read d ps p r e lt = ap (λ qs. (get_or qs p r).kind) e ∙ ap (λ (q : Process). q.kind) (get_or_default d.processes p r no_process lt)

-- ---- spans that have a bit

pub spans_have : (spans : List Span) (s : Span) (b : Bit) → Contains spans s → is_in s b ≡ true → has_bit spans b ≡ true
spans_have spans s b c h = list_any_at (λ t. is_in t b) spans c.0 s c.1 (subst (λ t. is_in t b ≡ true) (sym c.2) h)

-- a span of the list that has a bit
pub record HasIt (spans : List Span) (b : Bit) : Type 0 where
  pub span : Span
  pub stands : Contains spans span
  pub within : is_in span b ≡ true

pub one_has : (spans : List Span) (b : Bit) → has_bit spans b ≡ true → HasIt spans b
one_has spans b h =
    let a : Any (λ s. is_in s b ≡ true) spans = Any-from_list_any (λ s. is_in s b) spans h in
    record { span = a.1; stands = (a.0, a.2, a.3); within = a.4 }

or_left : (x y : Bool) → x ≡ true → (x || y) ≡ true
or_left true y e = refl
or_left false y e = absurd (cc e)

or_right : (x y : Bool) → y ≡ true → (x || y) ≡ true
or_right true y e = refl
or_right false y e = e

either_of : (x y : Bool) → (x || y) ≡ true → (x ≡ true) ⊎ (y ≡ true)
either_of true y e = inl refl
either_of false y e = inr e

pub named_has : (u : Uses) (s : Span) (b : Bit) → IsNamed u s → is_in s b ≡ true → (has_bit u.sets b || has_bit u.defers b) ≡ true
named_has u s b n h = elim n [
  | inl c ↦ or_left (has_bit u.sets b) (has_bit u.defers b) (spans_have u.sets s b c h)
  | inr c ↦ or_right (has_bit u.sets b) (has_bit u.defers b) (spans_have u.defers s b c h)
]

-- a target that has a bit
pub record NamesIt (u : Uses) (b : Bit) : Type 0 where
  pub span : Span
  pub named : IsNamed u span
  pub within : is_in span b ≡ true

pub one_names : (u : Uses) (b : Bit) → (has_bit u.sets b || has_bit u.defers b) ≡ true → NamesIt u b
one_names u b h = elim (either_of (has_bit u.sets b) (has_bit u.defers b) h) [
  | inl s ↦ (let i : HasIt u.sets b = one_has u.sets b s in record { span = i.span; named = inl i.stands; within = i.within })
  | inr s ↦ (let i : HasIt u.defers b = one_has u.defers b s in record { span = i.span; named = inr i.stands; within = i.within })
]

-- ---- the table

-- of the first so many processes, those that settle and the spans that they name
abbrev pub Named : Design → List Uses → ℕ → ℕ → Span → Type 0
Named d us n x s = (x < n) × IsTrue (settles (kind_of d x)) × IsNamed (get_or us x no_uses) s

module _ (d : Design) (us : List Uses) (uses : (p : ℕ) → p < length d.processes → AreUsesOf d p (get_or us p no_uses)) where
  uses_of : (p : ℕ) → IsTrue (settles (kind_of d p)) → AreUsesOf d p (get_or us p no_uses)
  uses_of p settled = uses p (settles_below d p settled)

  named_in : (x : ℕ) (s : Span) → IsTrue (settles (kind_of d x)) → IsNamed (get_or us x no_uses) s → IsSpanOf d.vars s
  named_in x s settled n = elim n [
    | inl c ↦ subst (IsSpanOf d.vars) c.2 ((uses_of x settled).sets_in c.0 s c.1)
    | inr c ↦ subst (IsSpanOf d.vars) c.2 ((uses_of x settled).defers_in c.0 s c.1)
  ]

  driven_by : (x : ℕ) (s : Span) (b : Bit) → IsTrue (settles (kind_of d x)) → IsNamed (get_or us x no_uses) s → IsBitOf d b → is_in s b ≡ true → Settles d x b
  driven_by x s b settled n i h = record {
    kind = settled;
    driven = sym ((uses_of x settled).drives b i) ∙ named_has (get_or us x no_uses) s b n h;
  }

  names_of : (x : ℕ) (b : Bit) → IsBitOf d b → Settles d x b → NamesIt (get_or us x no_uses) b
  names_of x b i h = one_names (get_or us x no_uses) b ((uses_of x h.kind).drives b i ∙ h.driven)

  module _ (blank o : Owners) (n : ℕ) (end : length d.processes ≤ n) (few : AreNumbered (slots_of d)) (start : IsBlank d.vars blank)
      (notes : Notes blank o (Named d us n)) where
    bits : Adds blank.bits o.bits (InBits (slots_of d) (Named d us n))
    bits = subst (λ slots. Adds blank.bits o.bits (InBits slots (Named d us n))) start.slots notes.bits

    whole : Adds blank.whole o.whole (InWhole (slots_of d) (Named d us n))
    whole = subst (λ slots. Adds blank.whole o.whole (InWhole slots (Named d us n))) start.slots notes.whole

    columns : Adds blank.columns o.columns (InColumns (slots_of d) (Named d us n))
    columns = subst (λ slots. Adds blank.columns o.columns (InColumns slots (Named d us n))) start.slots notes.columns

    below : (x : ℕ) → IsTrue (settles (kind_of d x)) → x < n
    below x settled = let lt : x < length d.processes = settles_below d x settled in omega (arith, lt, end)

    from_bit : (b : Bit) (p : ℕ) → IsBitOf d b → HasEdge o.bits (number (slots_of d) b) p → Settles d p b
    from_bit b p i h = elim (bits.only (number (slots_of d) b) p h) [
      | inl old ↦ absurd (start.bits (number (slots_of d) b) p old)
      | inr r ↦ driven_by p r.0 b r.1.1 r.1.2 i
          (bit_among (slots_of d) r.0 b few (span_in d.vars r.0 (named_in p r.0 r.1.1 r.1.2)) r.2 (bit_in d.vars b i) r.3)
    ]

    width_is : (v : ℕ) → v < length d.vars → IsSlotOf (slot_of (slots_of d) v) (var_of d v)
    width_is v lt = slot_is 0 0 d.vars v lt

    column_is : (v c p : ℕ) (s : Span) → v < length d.vars → c < (var_of d v).width → IsSpanOf d.vars s
        → IsAmong (columns_of (slots_of d) s) (column_number (slots_of d) v c)
        → IsColumnOf s v c
    column_is v c p s lt inside i a =
        column_among (slots_of d) s v c few (span_in d.vars s i) (omega (arith, slots_many 0 0 d.vars, lt)) (omega (arith, (width_is v lt).width, inside)) a

    from_whole : (b : Bit) (p : ℕ) → IsBitOf d b → HasEdge o.whole (column_number (slots_of d) b.var b.place) p → Settles d p b
    from_whole b p i h = elim (whole.only (column_number (slots_of d) b.var b.place) p h) [
      | inl old ↦ absurd (start.whole (column_number (slots_of d) b.var b.place) p old)
      | inr r ↦ driven_by p r.0 b r.1.1 r.1.2 i (whole_has r.0 b (named_in p r.0 r.1.1 r.1.2) r.2 i
          (column_is b.var b.place p r.0 i.of_variable i.in_width (named_in p r.0 r.1.1 r.1.2) r.3))
    ]
      where
        whole_has : (s : Span) (b : Bit) → IsSpanOf d.vars s → (IsOfWord s → ⊥) → IsBitOf d b → IsColumnOf s b.var b.place → is_in s b ≡ true
        whole_has s b i many here k = elim i.one_or_all [
          | inl one ↦ absurd (many one)
          | inr all ↦ (
              let words : s.word_end ≡ (var_of d b.var).words = all.1 ∙ ap (λ v. (var_of d v).words) k.var in
              subst (λ v. is_in s (bit_of v b.word b.place) ≡ true) k.var
              (is_within s b.word b.place (omega (arith, all.0)) (omega (arith, words, here.of_word)) k.place k.place_end))
        ]

    from_column : (v c p : ℕ) → v < length d.vars → c < (var_of d v).width → HasEdge o.columns (column_number (slots_of d) v c) p
        → (b : Bit) × (b.var ≡ v) × (b.place ≡ c) × IsBitOf d b × Settles d p b
    from_column v c p lt inside h = elim (columns.only (column_number (slots_of d) v c) p h) [
      | inl old ↦ absurd (start.columns (column_number (slots_of d) v c) p old)
      | inr r ↦ (
          let i : IsSpanOf d.vars r.0 = named_in p r.0 r.1.1 r.1.2 in
          let k : IsColumnOf r.0 v c = column_is v c p r.0 lt inside i r.2 in
          let b : Bit = bit_of r.0.var r.0.word c in
          let here : IsBitOf d b = record {
            of_variable = i.of_variable;
            of_word = omega (arith, i.some_word, i.of_words);
            in_width = omega (arith, k.place_end, i.in_width);
          } in
          (b, k.var, refl, here, driven_by p r.0 b r.1.1 r.1.2 here (is_within r.0 r.0.word c (omega arith) i.some_word k.place k.place_end)))
    ]

    to_bit : (b : Bit) (p : ℕ) → IsBitOf d b → Settles d p b
        → HasEdge o.bits (number (slots_of d) b) p ⊎ HasEdge o.whole (column_number (slots_of d) b.var b.place) p
    to_bit b p i h =
        let s : NamesIt (get_or us p no_uses) b = names_of p b i h in
        elim (cases_eq s.span.word_end (s.span.word + 1)) [
          | inl one ↦ inl (bits.there (number (slots_of d) b) p
              (s.span, (below p h.kind, h.kind, s.named), one, among_bits (slots_of d) s.span b one s.within))
          | inr many ↦ inr (whole.there (column_number (slots_of d) b.var b.place) p
              (s.span, (below p h.kind, h.kind, s.named), many, among_columns (slots_of d) s.span b s.within))
        ]

    to_column : (b : Bit) (p : ℕ) → IsBitOf d b → Settles d p b → HasEdge o.columns (column_number (slots_of d) b.var b.place) p
    to_column b p i h =
        let s : NamesIt (get_or us p no_uses) b = names_of p b i h in
        columns.there (column_number (slots_of d) b.var b.place) p
        (s.span, (below p h.kind, h.kind, s.named), among_columns (slots_of d) s.span b s.within)

    pub are_owners : AreOwners d o
    are_owners = record {
      slots = notes.slots ∙ start.slots;
      table = table_kept blank o (Named d us n) start.table notes;
      from_bit = from_bit;
      from_whole = from_whole;
      from_column = from_column;
      to_bit = to_bit;
      to_column = to_column;
      bits_below = λ i x h. elim (bits.only i x h) [
        | inl old ↦ absurd (start.bits i x old)
        | inr r ↦ settles_below d x r.1.1
      ];
      whole_below = λ i x h. elim (whole.only i x h) [
        | inl old ↦ absurd (start.whole i x old)
        | inr r ↦ settles_below d x r.1.1
      ];
      columns_below = λ i x h. elim (columns.only i x h) [
        | inl old ↦ absurd (start.columns i x old)
        | inr r ↦ settles_below d x r.1.1
      ];
    }

-- ---- process by process

pub targets_in : (d : Design) (slots : List Slot) (spans : List Span) → slots ≡ slots_of d → All (IsSpanOf d.vars) spans → All (IsSpan slots) spans
targets_in d slots spans e h = subst (λ z. All (IsSpan z) spans) (sym e) (spans_in d.vars spans h)

pub none_named : (d : Design) (us : List Uses) (o : Owners) → Notes o o (Named d us 0)
none_named d us o = notes_none o (Named d us 0) (λ x s r. absurd (omega (arith, r.0)))

pub one_named : (d : Design) (us : List Uses) (a b c : Owners) (n : ℕ) (k : ProcessKind) (u : Uses) → k ≡ kind_of d n → u ≡ get_or us n no_uses
    → Notes a b (Named d us n) → Notes b c (λ x s. (x ≡ n) × IsTrue (settles k) × IsNamed u s) → Notes a c (Named d us (n + 1))
one_named d us a b c n k u kind is first then =
    notes_more a b c (Named d us n) (λ x s. (x ≡ n) × IsTrue (settles k) × IsNamed u s) (Named d us (n + 1)) first then
    (λ x s r. (omega (arith, r.0), r.1, r.2))
    (λ x s r. (
      omega (arith, r.0),
      subst (λ y. IsTrue (settles (kind_of d y))) (sym r.0) (subst (λ k. IsTrue (settles k)) kind r.1),
      subst (λ y. IsNamed (get_or us y no_uses) s) (sym r.0) (subst (λ u. IsNamed u s) is r.2),
    ))
    (λ x s t. elim (cases_lt x n) [
      | inl less ↦ inl (less, t.1, t.2)
      | inr more ↦ (let e : x ≡ n = omega (arith, more, t.0) in inr (
        e,
        subst (λ k. IsTrue (settles k)) (sym kind) (subst (λ y. IsTrue (settles (kind_of d y))) e t.1),
        subst (λ u. IsNamed u s) (sym is) (subst (λ y. IsNamed (get_or us y no_uses) s) e t.2),
      ))
    ])
