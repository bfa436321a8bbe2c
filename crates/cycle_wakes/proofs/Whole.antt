-- From what the processes of a design use to what wakes them.
use Rattle.std.proofs.Common.{◌≡◌, ◌∙◌, sym, ap, subst, refl, ℕ, suc, ◌+◌, ◌*◌, ◌<◌, ◌≤◌, ◌^◌, ◌||◌, inl, inr, Bool}
use Rattle.std.proofs.Common.{true, false, List, [], ◌∷◌, ◌++◌, length, map, arith}
use Rattle.std.specs.Prelude.{◌⊎◌, All, Any, Contains, IsTrue, slice_index_or}
use Rattle.std.specs.List.{list_any}
use Rattle.std.proofs.lemmas.List.{get_or-map, length-map, get_or_past, get_or_default}
use Rattle.std.proofs.lemmas.List.Elements.{All-append, All-nil, Contains-append_left, Contains-append_right}
use Rattle.std.proofs.lemmas.List.Folds.{Any-from_list_any, list_any_at}
use Rattle.std.proofs.Math.Nat.{mul-le-mul_left}
use Rattle.std.proofs.lemmas.Bool.{cases_lt}
use Rattle.std.proofs.lemmas.Bool.Decides.{nat_tests}
use Rattle.cov_types.specs.declared.var.Var.{Var}
use Rattle.design_tree.specs.declared.design.Design.{Design}
use Rattle.circuit_run.specs.Lists.{total}
use Rattle.circuit_run.specs.States.{Bit, var_of}
use Rattle.circuit_run.specs.Kinds.{settles}
use Rattle.design_meaning.specs.States.{IsBitOf}
use Rattle.design_meaning.specs.Orders.{IsOrder}
use Rattle.design_meaning.specs.Processes.{kind_of, process_of, no_process}
use Rattle.design_meaning.specs.Reach.{reads_bit, drives}
use Rattle.design_meaning.specs.Valid.{IsValidDesign}
use Rattle.design_meaning.specs.ValidVariables.{IsVariable}
use Rattle.flow_marks.specs.declared.span.Span.{Span}
use Rattle.flow_marks.specs.Slots.{is_in}
use Rattle.flow_spans.specs.Reads.{IsSpanOf, has_bit}
use Rattle.flow_uses.specs.declared.uses.Uses.{Uses}
use Rattle.flow_uses.specs.Uses.{AreUsesOf, no_uses}
use Rattle.cycle_wakes.specs.Readers.{AreReaders, NamesVar, SpansIn, no_span, reads_at, var_at}
use Rattle.cycle_wakes.specs.Sources.{HaveWhole, IsWhole, IsWritten}
use Rattle.cycle_wakes.specs.Targets.{named_by}
use Rattle.cycle_wakes.specs.Wakes.{AreWakesOf, DrivesAll, Wakes}

-- ---- spans and the variables that they are of

pub in_range : (vars : List Var) (spans : List Span) → All (IsSpanOf vars) spans → SpansIn (length vars) spans
in_range vars spans h j lt = (h j no_span lt).of_variable

in_var : (s : Span) (b : Bit) → is_in s b ≡ true → s.var ≡ b.var
in_var s b h = grind (arith, nat_tests)

-- one of the spans that have a bit is of its variable
named_var : (spans : List Span) (b : Bit) → has_bit spans b ≡ true → NamesVar spans (length spans) b.var
named_var spans b h =
    let a : Any (λ s. is_in s b ≡ true) spans = Any-from_list_any (λ s. is_in s b) spans h in
    (a.0, a.2, ap (λ (s : Span). s.var) (get_or_default spans a.0 no_span a.1 a.2 ∙ a.3) ∙ in_var a.1 b a.4)

contains_var : (spans : List Span) (b : Bit) → has_bit spans b ≡ true → Contains (map (λ (s : Span). s.var) spans) b.var
contains_var spans b h = (n.0, omega (arith, n.1, length-map spans (λ (s : Span). s.var)), get_or-map (λ (s : Span). s.var) spans n.0 no_span b.var n.1 ∙ n.2)
  where
    n : NamesVar spans (length spans) b.var
    n = named_var spans b h

either : (x y : Bool) → (x || y) ≡ true → (x ≡ true) ⊎ (y ≡ true)
either true y h = inl refl
either false y h = inr h

pub targets_named : (u : Uses) (b : Bit) → (has_bit u.sets b || has_bit u.defers b) ≡ true → Contains (named_by u) b.var
targets_named u b h = elim (either (has_bit u.sets b) (has_bit u.defers b) h) [
  | inl e ↦ Contains-append_left (map (λ (s : Span). s.var) u.sets) (map (λ (s : Span). s.var) u.defers) b.var (contains_var u.sets b e)
  | inr e ↦ Contains-append_right (map (λ (s : Span). s.var) u.sets) (map (λ (s : Span). s.var) u.defers) b.var (contains_var u.defers b e)
]

all_vars : (vars : List Var) (spans : List Span) → All (IsSpanOf vars) spans → All (λ v. v < length vars) (map (λ (s : Span). s.var) spans)
all_vars vars spans h k d lt =
    let here : k < length spans = omega (arith, lt, length-map spans (λ (s : Span). s.var)) in
    subst (λ v. v < length vars) (sym (get_or-map (λ (s : Span). s.var) spans k no_span d here)) (h k no_span here).of_variable

-- a span that has all bits of a variable has each of them
whole_has : (d : Design) (s : Span) (b : Bit) (v : ℕ) → IsBitOf d b → b.var ≡ v → s.var ≡ v → IsWhole s (var_of d.vars v) → is_in s b ≡ true
whole_has d s b v hb e f w =
    let word : b.word < s.word_end = omega (arith, w.word_end, subst (λ v. b.word < (var_of d.vars v).words) e hb.of_word) in
    let place : b.place < s.place_end = omega (arith, w.place_end, subst (λ v. b.place < (var_of d.vars v).width) e hb.in_width) in
    let same : s.var ≡ b.var = f ∙ sym e in
    let low : s.word ≤ b.word = omega (arith, w.word) in
    let least : s.place ≤ b.place = omega (arith, w.place) in
    grind (arith, nat_tests)

has_whole : (d : Design) (spans : List Span) (b : Bit) (v : ℕ) → IsBitOf d b → b.var ≡ v → HaveWhole d.vars spans v → has_bit spans b ≡ true
has_whole d spans b v hb e h = list_any_at (λ s. is_in s b) spans h.listed.0 h.span h.listed.1
    (subst (λ s. is_in s b ≡ true) (sym h.listed.2) (whole_has d h.span b v hb e h.of_variable h.whole))

-- ---- few variables

some_product : (a b : ℕ) → 1 ≤ a → 1 ≤ b → 1 ≤ a * b
some_product a b h k = let least = mul-le-mul_left a k in omega arith

some_width : (v : Var) → IsVariable v → 1 ≤ v.width
some_width v i = grind (arith, nat_tests, i.wide)

some_bits : (v : Var) → IsVariable v → 1 ≤ v.width * v.words
some_bits v i = some_product v.width v.words (some_width v i) i.some_words

few_vars : (vars : List Var) → All IsVariable vars → length vars ≤ total (map (λ v. v.width * v.words) vars)
few_vars [] h = omega arith
few_vars (v ∷ vars) h = omega (arith, some_bits v (h 0 v (omega arith)), few_vars vars (λ k d lt. h (suc k) d (omega (arith, lt))))

pub vars_few : (d : Design) → IsValidDesign d → length d.vars < 2 ^ 32
vars_few d valid = subst (λ (d : Design). length d.vars < 2 ^ 32) valid.2
    (omega (arith, few_vars valid.0.design.vars valid.1.variables, valid.1.limits.bits))

-- ---- the whole

settles_below : (d : Design) (p : ℕ) → IsTrue (settles (kind_of d p)) → p < length d.processes
settles_below d p h = elim (cases_lt p (length d.processes)) [
  | inl lt ↦ lt
  | inr past ↦ absurd (let no : settles (kind_of d p) ≡ false = ap (λ r. settles r.kind) (get_or_past d.processes p no_process past) in cc (h, no))
]

pub in_design : (d : Design) (order : List ℕ) → IsOrder d order → (n : ℕ) → n ≡ length d.processes → All (λ p. p < n) order
in_design d order io n many k x lt = omega (arith, settles_below d (slice_index_or order k x) (io.only k x lt), many)

module _ (d : Design) (order : List ℕ) (us : List Uses) (valid : IsValidDesign d) (io : IsOrder d order) (many : length us ≡ length d.processes)
    (uses : (p : ℕ) → p < length d.processes → AreUsesOf d p (slice_index_or us p no_uses)) where
  below : (k : ℕ) → k < length order → slice_index_or order k 0 < length d.processes
  below k lt = settles_below d (slice_index_or order k 0) (io.only k 0 lt)

  pub reads_in : All (λ u. SpansIn (length d.vars) u.reads) us
  reads_in k u lt = in_range d.vars (slice_index_or us k u).reads
      (subst (λ (u : Uses). All (IsSpanOf d.vars) u.reads) (get_or_default us k no_uses u lt) (uses k (omega (arith, lt, many))).reads_in)

  pub sets_in : All (λ u. SpansIn (length d.vars) u.sets) us
  sets_in k u lt = in_range d.vars (slice_index_or us k u).sets
      (subst (λ (u : Uses). All (IsSpanOf d.vars) u.sets) (get_or_default us k no_uses u lt) (uses k (omega (arith, lt, many))).sets_in)

  module _ (w : Wakes) (read : AreReaders (length d.vars) us order (length order) w.readers) (named : w.targets ≡ map named_by us)
      (each : (v : ℕ) → v < length d.vars → Contains w.sources v ⊎ IsWritten d.vars us order v) (within : All (λ v. v < length d.vars) w.sources) where
    targets_at : (p : ℕ) → p < length d.processes → slice_index_or w.targets p [] ≡ named_by (slice_index_or us p no_uses)
    targets_at p lt = ap (λ (ts : List (List ℕ)). slice_index_or ts p []) named ∙ get_or-map named_by us p no_uses [] (omega (arith, lt, many))

    all_driven : (v : ℕ) → IsWritten d.vars us order v → (p : ℕ) × DrivesAll d p v
    all_driven v h = (
      slice_index_or order h.place 0,
      record {
        settling = io.only h.place 0 h.within;
        all = λ b hb e. sym ((uses (slice_index_or order h.place 0) (below h.place h.within)).drives b hb)
            ∙ ap (λ x. x || has_bit (slice_index_or us (slice_index_or order h.place 0) no_uses).defers b)
            (has_whole d (slice_index_or us (slice_index_or order h.place 0) no_uses).sets b v hb e h.whole);
      },
    )

    pub wakes_are : AreWakesOf d order w
    wakes_are = record {
      many_variables = read.as_many;
      many_processes = ap (λ (ts : List (List ℕ)). length ts) named ∙ length-map us named_by ∙ many;
      read = λ k b lt hb r. reader k b lt (named_reads k b ((uses (slice_index_or order k 0) (below k lt)).reads b hb ∙ r));
      driven = λ p b lt hb dr. subst (λ vs. Contains vs b.var) (sym (targets_at p lt))
          (targets_named (slice_index_or us p no_uses) b ((uses p lt).drives b hb ∙ dr));
      sources = λ v lt. elim (each v lt) [
        | inl c ↦ inl c
        | inr h ↦ inr (all_driven v h)
      ];
      readers_in = λ v j x lt. read.within v (slice_index_or (slice_index_or w.readers v []) j x)
          (j, lt, get_or_default (slice_index_or w.readers v []) j (slice_index_or (slice_index_or w.readers v []) j x) x lt);
      targets_in = λ p. elim (cases_lt p (length d.processes)) [
        | inl lt ↦ subst (All (λ v. v < length d.vars)) (sym (targets_at p lt))
            (All-append (λ v. v < length d.vars) (map (λ (s : Span). s.var) (slice_index_or us p no_uses).sets)
            (map (λ (s : Span). s.var) (slice_index_or us p no_uses).defers) (all_vars d.vars (slice_index_or us p no_uses).sets (uses p lt).sets_in)
            (all_vars d.vars (slice_index_or us p no_uses).defers (uses p lt).defers_in))
        | inr past ↦ subst (All (λ v. v < length d.vars)) (sym (get_or_past w.targets p []
            (omega (arith, past, ap (λ (ts : List (List ℕ)). length ts) named, length-map us named_by, many)))) (All-nil (λ v. v < length d.vars))
      ];
      sources_in = within;
    }
      where
        named_reads : (k : ℕ) (b : Bit) → has_bit (reads_at us order k) b ≡ true → NamesVar (reads_at us order k) (length (reads_at us order k)) b.var
        named_reads k b h = named_var (reads_at us order k) b h

        reader : (k : ℕ) (b : Bit) → k < length order → NamesVar (reads_at us order k) (length (reads_at us order k)) b.var
            → Contains (slice_index_or w.readers b.var []) k
        reader k b lt n = subst (λ v. Contains (slice_index_or w.readers v []) k) n.2 (read.there k n.0 lt n.1)
