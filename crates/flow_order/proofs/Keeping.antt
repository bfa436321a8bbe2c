-- What is kept of the reads of each process of a valid design.
use Rattle.std.proofs.Common.{◌≡◌, ◌∙◌, sym, ap, subst, refl, ℕ, ◌+◌, ◌<◌, ◌≤◌, arith, inl, inr, Bool, true, false, if◌then◌else◌, List, [], ◌∷◌, ◌++◌, length}
use Rattle.std.proofs.Common.{get_or, map, IsTrue}
use Rattle.std.specs.Prelude.{All, nat_le}
use Rattle.std.proofs.lemmas.List.{get_or_read, get_or_push, get_or_append_left, length-append, get_or_past, get_or-map, length-map}
use Rattle.std.proofs.lemmas.List.Elements.{All-get_or, All-nil}
use Rattle.std.proofs.lemmas.Bool.{cases_lt}
use Rattle.std.proofs.lemmas.Bool.Decides.{nat_tests}
use Rattle.cov_types.specs.declared.var.Var.{Var}
use Rattle.design_tree.specs.declared.design.Process.{Process}
use Rattle.design_tree.specs.declared.design.Design.{Design}
use Rattle.circuit_run.specs.States.{State, Bit, held}
use Rattle.circuit_run.specs.States as circuit
use Rattle.circuit_run.specs.Kinds.{settles}
use Rattle.design_meaning.specs.States.{IsBitOf, IsStateOf}
use Rattle.design_meaning.specs.Processes.{process_of, kind_of, no_process}
use Rattle.design_meaning.specs.Reach.{reads_bit}
use Rattle.design_meaning.specs.ValidVariables.{IsVariable}
use Rattle.design_meaning.specs.Valid.{IsValidDesign}
use Rattle.flow_marks.specs.declared.span.Span.{Span}
use Rattle.flow_spans.specs.Reads.{IsSpanOf}
use Rattle.flow_uses.specs.declared.uses.Uses.{Uses}
use Rattle.flow_uses.specs.Uses.{AreUsesOf, no_uses}
use Rattle.flow_uses.proofs.Whole.{variables_of}
use Rattle.flow_order.specs.declared.mask.WordMask.{WordMask}
use Rattle.flow_order.specs.Masks.{HasPlaces, is_read, mask_of}
use Rattle.flow_order.specs.Orders.{AreReadsOf, AreWithin, IsWithin}
use Rattle.flow_order.proofs.Masks.{all_spans}

-- ---- spans of a valid design

few_places : (v : Var) → IsVariable v → v.width ≤ 128
few_places v i = grind (arith, nat_tests, i.wide)

one_places : (vars : List Var) → All IsVariable vars → (s : Span) → IsSpanOf vars s → HasPlaces s
one_places vars valid s i =
    let few : (circuit.var_of vars s.var).width ≤ 128 =
    few_places (circuit.var_of vars s.var) (All-get_or IsVariable vars s.var circuit.no_var i.of_variable valid) in
    record { places = i.places; few = omega (arith, few, i.in_width) }

pub have_places : (vars : List Var) → All IsVariable vars → (spans : List Span) → All (IsSpanOf vars) spans → All HasPlaces spans
have_places vars valid spans h = λ k d lt. one_places vars valid (get_or spans k d) (h k d lt)

are_within : (d : Design) (s : State) → IsStateOf d s → (spans : List Span) → All (IsSpanOf d.vars) spans → AreWithin s (map mask_of spans)
are_within d s i spans h = λ k m lt.
    let inside : k < length spans = omega (arith, lt, length-map spans mask_of) in
    subst (IsWithin s) (sym (get_or-map mask_of spans k no_span m inside)) (one_within (get_or spans k no_span) (h k no_span inside))
  where
    no_span : Span
    no_span = record { var = 0; word = 0; word_end = 0; place = 0; place_end = 0 }

    one_within : (x : Span) → IsSpanOf d.vars x → IsWithin s (mask_of x)
    one_within x first = record {
      of_variable = omega (arith, first.of_variable, i.as_many);
      of_words = omega (arith, first.of_words, (i.each x.var first.of_variable).as_many);
    }

-- ---- all processes

-- what is kept of a process
abbrev pub kept_of : Design → List Uses → ℕ → List WordMask
kept_of d us p = if settles (kind_of d p) then map mask_of (get_or us p no_uses).reads else []

-- of the first so many processes it is kept
pub record AreKept (d : Design) (us : List Uses) (reads : List (List WordMask)) (n : ℕ) : Type 0 where
  pub many : length reads ≡ n
  pub within : n ≤ length d.processes
  pub each : (p : ℕ) → p < n → get_or reads p [] ≡ kept_of d us p

pub none_kept : (d : Design) (us : List Uses) → AreKept d us [] 0
none_kept d us = record { many = refl; within = omega arith; each = λ p lt. absurd (omega (arith, lt)) }

pub one_kept : (d : Design) (us : List Uses) (reads : List (List WordMask)) (masks : List WordMask) (n : ℕ) (p : Process) (u : Uses)
    → n < length d.processes → length us ≡ length d.processes → p ≡ get_or d.processes n p → u ≡ get_or us n u
    → masks ≡ (if settles p.kind then map mask_of u.reads else []) → AreKept d us reads n → AreKept d us (reads ++ masks ∷ []) (n + 1)
one_kept d us reads masks n p u lt many is used e h = record {
  many = length-append reads (masks ∷ []) ∙ ap (λ n. n + 1) h.many;
  within = omega (arith, lt);
  each = λ q l. elim (cases_lt q n) [
    | inl less ↦ get_or_append_left reads (masks ∷ []) [] q (omega (arith, h.many, less)) ∙ h.each q less
    | inr more ↦ (let at : q ≡ n = omega (arith, l, more) in
        rw at (get_or_push reads masks [] n h.many ∙ (e
        ∙ (subst (λ (r : Process). (if settles p.kind then map mask_of u.reads else []) ≡ (if settles r.kind then map mask_of u.reads else []))
        (get_or_read d.processes n p lt is no_process) refl
        ∙ subst (λ (v : Uses). (if settles (kind_of d n) then map mask_of u.reads else []) ≡ (if settles (kind_of d n) then map mask_of v.reads else []))
        (get_or_read us n u (omega (arith, lt, many)) used no_uses) refl))))
  ];
}

-- ---- the whole

when : {A : Type 0} (x : Bool) (a b : A) → x ≡ true → (if x then a else b) ≡ a
when true a b e = refl
when false a b e = absurd (cc e)

unless : {A : Type 0} (x : Bool) (a b : A) → x ≡ false → (if x then a else b) ≡ b
unless true a b e = absurd (cc e)
unless false a b e = refl

kept_within : (d : Design) (s : State) → IsStateOf d s → (x : Bool) (spans : List Span) → All (IsSpanOf d.vars) spans
    → AreWithin s (if x then map mask_of spans else [])
kept_within d s i true spans h = are_within d s i spans h
kept_within d s i false spans h = All-nil (IsWithin s)

settles_below : (d : Design) (p : ℕ) → IsTrue (settles (kind_of d p)) → p < length d.processes
settles_below d p h = elim (cases_lt p (length d.processes)) [
  | inl lt ↦ lt
  | inr past ↦ absurd (let e : process_of d p ≡ no_process = get_or_past d.processes p no_process past in
      let no : settles (kind_of d p) ≡ false = ap (λ (r : Process). settles r.kind) e in cc (h, no))
]

pub reads_are : (d : Design) (us : List Uses) (reads : List (List WordMask)) (n : ℕ) → length d.processes ≤ n
    → ((p : ℕ) → p < length d.processes → AreUsesOf d p (get_or us p no_uses)) → AreKept d us reads n → AreReadsOf d reads
reads_are d us reads n end uses h = record {
  as_many = omega (arith, h.many, h.within, end);
  read = λ p b yes of.
      (let lt : p < length d.processes = settles_below d p yes in
      ap (λ masks. is_read masks b) (h.each p (omega (arith, lt, end)) ∙ when (settles (kind_of d p)) (map mask_of (get_or us p no_uses).reads) [] yes)
      ∙ (all_spans (get_or us p no_uses).reads b ∙ (uses p lt).reads b of));
  idle = λ p no. elim (cases_lt p n) [
    | inl lt ↦ h.each p lt ∙ unless (settles (kind_of d p)) (map mask_of (get_or us p no_uses).reads) [] no
    | inr past ↦ get_or_past reads p [] (omega (arith, past, h.many))
  ];
  within = λ s p i. elim (cases_lt p n) [
    | inl lt ↦ subst (AreWithin s) (sym (h.each p lt)) (kept_within d s i (settles (kind_of d p)) (get_or us p no_uses).reads
        (uses p (omega (arith, lt, h.within))).reads_in)
    | inr past ↦ subst (AreWithin s) (sym (get_or_past reads p [] (omega (arith, past, h.many)))) (All-nil (IsWithin s))
  ];
}
