-- Which processes see a variable, process by process.
use Rattle.std.proofs.Common.{◌≡◌, ◌≢◌, ◌∙◌, sym, ap, ap₂, subst, refl, ℕ, ◌+◌, ◌<◌, ◌≤◌, ◌==◌, ◌⊎◌, inl, inr, Bool, true, false, not, ◌||◌, ◌&&◌}
use Rattle.std.proofs.Common.{if◌then◌else◌, Option, Some, None, List, [], ◌∷◌, zero, suc, length, get_or, set, take, eqb-true, eq-eqb, get_or-set_other}
use Rattle.std.proofs.Common.{get_or-set_same, arith}
use Rattle.std.specs.Prelude.{IsTrue, All, Contains, nat_lt}
use Rattle.std.specs.List.{list_any}
use Rattle.std.proofs.lemmas.Bool.{cases_eq, cases_lt, ltb-true, lt-ltb}
use Rattle.std.proofs.lemmas.List.{get_or_past, get_or_read}
use Rattle.std.proofs.lemmas.List.Folds.{list_any_more, list_any_at}
use Rattle.cov_types.specs.declared.kind.ProcessKind.{ProcessKind}
use Rattle.cov_types.specs.declared.kind.ProcessKind.TheVariants as kind
use Rattle.design_tree.specs.declared.design.Process.{Process}
use Rattle.design_tree.specs.declared.design.Design.{Design}
use Rattle.circuit_run.specs.States.{Bit, var_of}
use Rattle.circuit_run.specs.Kinds.{is_clocked, is_initial}
use Rattle.design_meaning.specs.States.{IsBitOf}
use Rattle.design_meaning.specs.Processes.{process_of, kind_of, no_process}
use Rattle.design_meaning.specs.Paths.{paths}
use Rattle.design_meaning.specs.Reach.{event_reads, event_sets, event_defers, reads_bit, sets_var, defers_var}
use Rattle.design_meaning.specs.Flow.{IsNotPrivate, IsShared}
use Rattle.flow_marks.specs.declared.span.Span.{Span}
use Rattle.flow_marks.specs.Slots.{is_in}
use Rattle.flow_marks.proofs.Tests.{Within, within, is_within}
use Rattle.flow_spans.specs.Reads.{IsSpanOf, has_bit}
use Rattle.flow_uses.specs.declared.uses.Uses.{Uses}
use Rattle.flow_uses.specs.Uses.{AreUsesOf, has_var}
use Rattle.flow_least.specs.Least.{IsLeastOf, lesser_of}
use Rattle.flow_least.proofs.Lessers.{least_same}
use Rattle.flow_drivers.specs.declared.watch.Watch.{Watch}
use Rattle.flow_drivers.specs.declared.watch.Watch.TheVariants as watch
use Rattle.flow_drivers.specs.Watching.{no_watch, with_process, seen_by_other, has_read_var, touches, HasWatched, is_seen, IsSeenIn, IsToucher, IsWatch}
use Rattle.flow_drivers.specs.Watching.{IsToucherBefore, AreWatched}
use Rattle.flow_drivers.proofs.Flagging.{either_of, or_left, or_right, and_left, and_right, and_both}

-- ---- one that passes a test

pub some_at : {X : Type 0} (f : X → Bool) (xs : List X) (d : X) → list_any f xs ≡ true → (k : ℕ) × (k < length xs) × (f (get_or xs k d) ≡ true)
some_at f [] d h = absurd (cc h)
some_at f (x ∷ xs) d h = go (f x) refl h (some_at f xs d)
  where
    go : (b : Bool) → f x ≡ b → (b || list_any f xs) ≡ true → (list_any f xs ≡ true → (k : ℕ) × (k < length xs) × (f (get_or xs k d) ≡ true))
        → (k : ℕ) × (k < length (x ∷ xs)) × (f (get_or (x ∷ xs) k d) ≡ true)
    go true e k rest = (0, omega arith, e)
    go false e k rest =
        let r : (k : ℕ) × (k < length xs) × (f (get_or xs k d) ≡ true) = rest k in
        let l : r.0 < length xs = r.1 in (suc r.0, omega (arith, l), r.2)

-- ---- watches

twice : (w : Watch) (p : ℕ) → with_process (with_process w p) p ≡ with_process w p
twice watch.Nobody p = first p (eq-eqb p p refl)
  where
    first : (p : ℕ) → (p == p) ≡ true → (if p == p then watch.One p else watch.Several) ≡ watch.One p
    first p e = ap (λ b. if b then watch.One p else watch.Several) e
twice (watch.One q) p = go (q == p) refl
  where
    go : (b : Bool) → (q == p) ≡ b → with_process (if b then watch.One q else watch.Several) p ≡ (if b then watch.One q else watch.Several)
    go true e = ap (λ b. if b then watch.One q else watch.Several) e
    go false e = refl
twice watch.Several p = refl

-- one variable was noted
pub watch_more : (watches : List Watch) (w v p : ℕ) (h : Bool) (o : Watch) → w < length watches
    → get_or watches v no_watch ≡ (if h then with_process o p else o)
    → get_or (set watches w (with_process (get_or watches w no_watch) p)) v no_watch ≡ (if h || (w == v) then with_process o p else o)
watch_more watches w v p h o inside e = go (w == v) refl
  where
    noted : (h : Bool) → with_process (if h then with_process o p else o) p ≡ (if h || true then with_process o p else o)
    noted true = twice o p
    noted false = refl

    other : (h : Bool) → (if h then with_process o p else o) ≡ (if h || false then with_process o p else o)
    other true = refl
    other false = refl

    go : (b : Bool) → (w == v) ≡ b → get_or (set watches w (with_process (get_or watches w no_watch) p)) v no_watch ≡ (if h || b then with_process o p else o)
    go true k = subst (λ u. get_or (set watches w (with_process (get_or watches w no_watch) p)) u no_watch
        ≡ with_process (get_or watches w no_watch) p) (eqb-true w v k)
        (get_or-set_same watches w (with_process (get_or watches w no_watch) p) no_watch inside)
        ∙ ap (λ u. with_process (get_or watches u no_watch) p) (eqb-true w v k) ∙ ap (λ z. with_process z p) e ∙ noted h
    go false k = get_or-set_other watches w v (with_process (get_or watches w no_watch) p) no_watch (λ q. absurd (cc (k, eq-eqb w v (sym q)))) ∙ e ∙ other h

module _ (spans : List Span) (i : ℕ) (d : Span) (lt : i < length spans) (p : ℕ) (watches old : List Watch) where
  abbrev s : Span
  s = get_or spans i d

  pub written_next : s.var < length watches
      → ((v : ℕ) → get_or watches v no_watch ≡ (if has_var (take i spans) v then with_process (get_or old v no_watch) p else get_or old v no_watch))
      → (v : ℕ) → get_or (set watches s.var (with_process (get_or watches s.var no_watch) p)) v no_watch
      ≡ (if has_var (take (i + 1) spans) v then with_process (get_or old v no_watch) p else get_or old v no_watch)
  written_next inside h v = watch_more watches s.var v p (has_var (take i spans) v) (get_or old v no_watch) inside (h v)
      ∙ ap (λ b. if b then with_process (get_or old v no_watch) p else get_or old v no_watch) (sym (list_any_more (λ (t : Span). t.var == v) spans i d lt))

  read_more : (v : ℕ) (b : Bool) → nat_lt s.place s.place_end ≡ b → has_read_var (take (i + 1) spans) v ≡ (has_read_var (take i spans) v || ((s.var == v) && b))
  read_more v b e = list_any_more (λ (t : Span). t.var == v && nat_lt t.place t.place_end) spans i d lt
      ∙ ap (λ r. has_read_var (take i spans) v || ((s.var == v) && r)) e

  pub read_next : s.var < length watches → s.place < s.place_end
      → ((v : ℕ) → get_or watches v no_watch ≡ (if has_read_var (take i spans) v then with_process (get_or old v no_watch) p else get_or old v no_watch))
      → (v : ℕ) → get_or (set watches s.var (with_process (get_or watches s.var no_watch) p)) v no_watch
      ≡ (if has_read_var (take (i + 1) spans) v then with_process (get_or old v no_watch) p else get_or old v no_watch)
  read_next inside some h v = watch_more watches s.var v p (has_read_var (take i spans) v) (get_or old v no_watch) inside (h v)
      ∙ ap (λ b. if has_read_var (take i spans) v || b then with_process (get_or old v no_watch) p else get_or old v no_watch) (itself (s.var == v))
      ∙ ap (λ b. if b then with_process (get_or old v no_watch) p else get_or old v no_watch) (sym (read_more v true (lt-ltb s.place s.place_end some)))
    where
      itself : (a : Bool) → a ≡ (a && true)
      itself true = refl
      itself false = refl

  pub read_pass : s.place_end ≤ s.place
      → ((v : ℕ) → get_or watches v no_watch ≡ (if has_read_var (take i spans) v then with_process (get_or old v no_watch) p else get_or old v no_watch))
      → (v : ℕ) → get_or watches v no_watch ≡ (if has_read_var (take (i + 1) spans) v then with_process (get_or old v no_watch) p else get_or old v no_watch)
  read_pass none h v = h v ∙ ap (λ b. if b then with_process (get_or old v no_watch) p else get_or old v no_watch)
      (nothing (has_read_var (take i spans) v) (s.var == v) ∙ sym (read_more v false (empty (nat_lt s.place s.place_end) refl)))
    where
      nothing : (a b : Bool) → a ≡ (a || (b && false))
      nothing true b = refl
      nothing false true = refl
      nothing false false = refl

      empty : (b : Bool) → nat_lt s.place s.place_end ≡ b → nat_lt s.place s.place_end ≡ false
      empty true e = absurd (omega (arith, none, ltb-true s.place s.place_end e))
      empty false e = e

-- reads and writes of a process one after the other
pub all_noted : (o a b c : Watch) (p : ℕ) (x y z : Bool) → a ≡ (if x then with_process o p else o) → b ≡ (if y then with_process a p else a)
    → c ≡ (if z then with_process b p else b)
    → c ≡ (if (x || y) || z then with_process o p else o)
all_noted o a b c p x y z e f g = g ∙ ap (λ b. if z then with_process b p else b) (f ∙ ap (λ a. if y then with_process a p else a) e ∙ join x y)
    ∙ join (x || y) z
  where
    join : (x y : Bool) → (if y then with_process (if x then with_process o p else o) p else (if x then with_process o p else o))
        ≡ (if x || y then with_process o p else o)
    join true true = twice o p
    join true false = refl
    join false true = refl
    join false false = refl

-- ---- what watches say

pub watch_same : (T U : ℕ → Type 0) (w : Watch) → ((q : ℕ) → T q → U q) → ((q : ℕ) → U q → T q) → IsWatch T w → IsWatch U w
watch_same T U watch.Nobody f g h = λ q x. h q (g q x)
watch_same T U (watch.One q) f g h = (f q h.0, λ r x. h.1 r (g r x))
watch_same T U watch.Several f g h = (h.0, h.1, h.2, f h.0 h.3, f h.1 h.4)

watch_with : (T U : ℕ → Type 0) (w : Watch) (p : ℕ) → ((q : ℕ) → T q → U q) → U p → ((q : ℕ) → U q → T q ⊎ (q ≡ p)) → IsWatch T w → IsWatch U (with_process w p)
watch_with T U watch.Nobody p f u g h = (u, λ r x. elim (g r x) [ inl t ↦ absurd (h r t) | inr e ↦ e ])
watch_with T U (watch.One q) p f u g h = go (q == p) refl
  where
    go : (b : Bool) → (q == p) ≡ b → IsWatch U (if b then watch.One q else watch.Several)
    go true e = (f q h.0, λ r x. elim (g r x) [ inl t ↦ h.1 r t | inr k ↦ k ∙ sym (eqb-true q p e) ])
    go false e = (q, p, (λ k. absurd (cc (e, eq-eqb q p k))), f q h.0, u)
watch_with T U watch.Several p f u g h = (h.0, h.1, h.2, f h.0 h.3, f h.1 h.4)

pub seen_by : (T : ℕ → Type 0) (w : Watch) (p : ℕ) → IsWatch T w → seen_by_other w p ≡ true → (q : ℕ) × (q ≢ p) × T q
seen_by T watch.Nobody p h e = absurd (cc e)
seen_by T (watch.One q) p h e = (q, (λ k. absurd (cc (e, ap not (eq-eqb q p k)))), h.0)
seen_by T watch.Several p h e = elim (cases_eq h.0 p) [
  | inl k ↦ (h.1, (λ l. h.2 (k ∙ sym l)), h.4)
  | inr k ↦ (h.0, k, h.3)
]

pub seen_if : (T : ℕ → Type 0) (w : Watch) (p q : ℕ) → IsWatch T w → q ≢ p → T q → seen_by_other w p ≡ true
seen_if T watch.Nobody p q h n t = absurd (h q t)
seen_if T (watch.One r) p q h n t = go (r == p) refl
  where
    go : (b : Bool) → (r == p) ≡ b → not b ≡ true
    go true e = absurd (n (h.1 q t ∙ eqb-true r p e))
    go false e = refl
seen_if T watch.Several p q h n t = refl

-- ---- processes of a design

module _ (d : Design) (v : ℕ) (here : v < length d.vars) where
  read_bits : (p : ℕ) (u : Uses) → AreUsesOf d p u → has_read_var u.reads v ≡ true → (b : Bit) × IsBitOf d b × (b.var ≡ v) × IsTrue (reads_bit d p b)
  read_bits p u uses h =
      let no_span : Span = record { var = 0; word = 0; word_end = 0; place = 0; place_end = 0 } in
      let f : (k : ℕ) × (k < length u.reads) × (((get_or u.reads k no_span).var == v && nat_lt (get_or u.reads k no_span).place
      (get_or u.reads k no_span).place_end) ≡ true) =
      some_at (λ (t : Span). t.var == v && nat_lt t.place t.place_end) u.reads no_span h in
      let s : Span = get_or u.reads f.0 no_span in
      let i : IsSpanOf d.vars (get_or u.reads f.0 no_span) = uses.reads_in f.0 no_span f.1 in
      let e : (get_or u.reads f.0 no_span).var
      ≡ v = eqb-true (get_or u.reads f.0 no_span).var v
      (and_left ((get_or u.reads f.0 no_span).var == v) (nat_lt (get_or u.reads f.0 no_span).place (get_or u.reads f.0 no_span).place_end) f.2) in
      let l : (get_or u.reads f.0 no_span).place < (get_or u.reads f.0 no_span).place_end =
      ltb-true (get_or u.reads f.0 no_span).place (get_or u.reads f.0 no_span).place_end
      (and_right ((get_or u.reads f.0 no_span).var == v) (nat_lt (get_or u.reads f.0 no_span).place (get_or u.reads f.0 no_span).place_end) f.2) in
      first p u uses (get_or u.reads f.0 no_span) f.0 no_span f.1 refl i e l
    where
      first : (p : ℕ) (u : Uses) → AreUsesOf d p u → (s : Span) (k : ℕ) (t : Span) → k < length u.reads → s ≡ get_or u.reads k t → IsSpanOf d.vars s
          → s.var ≡ v → s.place < s.place_end
          → (b : Bit) × IsBitOf d b × (b.var ≡ v) × IsTrue (reads_bit d p b)
      first p u uses s k t lt is i e l =
          let b : Bit = record { var = s.var; word = s.word; place = s.place } in
          let bit : IsBitOf d (record { var = s.var; word = s.word; place = s.place }) = record {
            of_variable = i.of_variable;
            of_word = omega (arith, i.some_word, i.of_words);
            in_width = omega (arith, l, i.in_width);
          } in
          let inside : is_in s (record { var = s.var; word = s.word; place = s.place })
          ≡ true = is_within s s.word s.place (omega arith) i.some_word (omega arith) l in
          let has : has_bit u.reads (record { var = s.var; word = s.word; place = s.place }) ≡ true =
          list_any_at (λ (x : Span). is_in x (record { var = s.var; word = s.word; place = s.place })) u.reads k t lt
          (subst (λ (x : Span). is_in x (record { var = s.var; word = s.word; place = s.place }) ≡ true) is inside) in
          (record { var = s.var; word = s.word; place = s.place }, bit, e, sym (uses.reads (record { var = s.var; word = s.word; place = s.place }) bit) ∙ has)

  read_var : (p : ℕ) (u : Uses) → AreUsesOf d p u → (b : Bit) → IsBitOf d b → b.var ≡ v → IsTrue (reads_bit d p b) → has_read_var u.reads v ≡ true
  read_var p u uses b i e r =
      let no_span : Span = record { var = 0; word = 0; word_end = 0; place = 0; place_end = 0 } in
      let f : (k : ℕ) × (k < length u.reads) × (is_in (get_or u.reads k no_span) b
      ≡ true) = some_at (λ (t : Span). is_in t b) u.reads no_span (uses.reads b i ∙ r) in
      let w : Within (get_or u.reads f.0 no_span) b = within (get_or u.reads f.0 no_span) b f.2 in
      list_any_at (λ (t : Span). t.var == v && nat_lt t.place t.place_end) u.reads f.0 no_span f.1
      (and_both ((get_or u.reads f.0 no_span).var == v) (nat_lt (get_or u.reads f.0 no_span).place (get_or u.reads f.0 no_span).place_end)
      (eq-eqb (get_or u.reads f.0 no_span).var v (w.var
      ∙ e)) (lt-ltb (get_or u.reads f.0 no_span).place (get_or u.reads f.0 no_span).place_end (omega (arith, w.place, w.place_end))))

  touched_by : (p : ℕ) (u : Uses) → AreUsesOf d p u → is_initial (kind_of d p) ≡ false → touches u v ≡ true → IsToucher d v p
  touched_by p u uses k h = record {
    kinds = k;
    touched = elim (either_of (has_read_var u.reads v || has_var u.sets v) (has_var u.defers v) h) [
      | inl x ↦ elim (either_of (has_read_var u.reads v) (has_var u.sets v) x) [
        | inl r ↦ inl (read_bits p u uses r)
        | inr s ↦ inr (or_left (sets_var d p v) (defers_var d p v) (sym (uses.sets v) ∙ s))
      ]
      | inr x ↦ inr (or_right (sets_var d p v) (defers_var d p v) (sym (uses.defers v) ∙ x))
    ];
  }

  touches_if : (p : ℕ) (u : Uses) → AreUsesOf d p u → IsToucher d v p → touches u v ≡ true
  touches_if p u uses t = elim t.touched [
    | inl x ↦ or_left (has_read_var u.reads v || has_var u.sets v) (has_var u.defers v)
        (or_left (has_read_var u.reads v) (has_var u.sets v) (read_var p u uses x.0 x.1 x.2 x.3))
    | inr x ↦ elim (either_of (sets_var d p v) (defers_var d p v) x) [
      | inl s ↦ or_left (has_read_var u.reads v || has_var u.sets v) (has_var u.defers v) (or_right (has_read_var u.reads v) (has_var u.sets v) (uses.sets v
          ∙ s))
      | inr s ↦ or_right (has_read_var u.reads v || has_var u.sets v) (has_var u.defers v) (uses.defers v ∙ s)
    ]
  ]

  later : (p q : ℕ) → IsToucherBefore d p v q → IsToucherBefore d (p + 1) v q
  later p q x = record { before = omega (arith, x.before); is = x.is }

  one_or_before : (p q : ℕ) → IsToucherBefore d (p + 1) v q → IsToucherBefore d p v q ⊎ (q ≡ p)
  one_or_before p q x = elim (cases_lt q p) [
    | inl l ↦ inl (record { before = l; is = x.is })
    | inr l ↦ inr (omega (arith, x.before, l))
  ]

  -- a process that isn't initial was noted
  pub watched_next : (p : ℕ) (u : Uses) (w : Watch) → AreUsesOf d p u → is_initial (kind_of d p) ≡ false → IsWatch (IsToucherBefore d p v) w
      → IsWatch (IsToucherBefore d (p + 1) v) (if touches u v then with_process w p else w)
  watched_next p u w uses k h = go (touches u v) refl
    where
      go : (b : Bool) → touches u v ≡ b → IsWatch (IsToucherBefore d (p + 1) v) (if b then with_process w p else w)
      go true e = watch_with (IsToucherBefore d p v) (IsToucherBefore d (p + 1) v) w p (later p)
          (record { before = omega arith; is = touched_by p u uses k e }) (one_or_before p) h
      go false e = watch_same (IsToucherBefore d p v) (IsToucherBefore d (p + 1) v) w (later p)
          (λ q x. elim (one_or_before p q x) [
            | inl t ↦ t
            | inr c ↦ absurd (cc (e, touches_if p u uses (subst (IsToucher d v) c x.is)))
          ]) h

  -- an initial one is passed over
  pub watched_pass : (p : ℕ) (w : Watch) → is_initial (kind_of d p) ≡ true → IsWatch (IsToucherBefore d p v) w → IsWatch (IsToucherBefore d (p + 1) v) w
  watched_pass p w k h = watch_same (IsToucherBefore d p v) (IsToucherBefore d (p + 1) v) w (later p)
      (λ q x. elim (one_or_before p q x) [
        | inl t ↦ t
        | inr c ↦ absurd (cc (k, ap (λ q. is_initial (kind_of d q)) c, x.is.kinds))
      ]) h
