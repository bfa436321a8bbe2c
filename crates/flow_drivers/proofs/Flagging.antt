-- Flags of variables, span by span.
use Rattle.std.proofs.Common.{◌≡◌, ◌≢◌, ◌∙◌, sym, ap, subst, refl, ℕ, ◌+◌, ◌<◌, ◌≤◌, ◌==◌, ◌⊎◌, inl, inr, Bool, true, false, ◌||◌, ◌&&◌, if◌then◌else◌, Option}
use Rattle.std.proofs.Common.{Some, None, List, [], ◌∷◌, ◌++◌, append-nil, length, get_or, set, take, drop, eqb-true, eq-eqb, get_or-set_other, get_or-set_same}
use Rattle.std.proofs.Common.{arith}
use Rattle.std.specs.Prelude.{IsTrue, All}
use Rattle.std.specs.List.{list_any}
use Rattle.std.proofs.lemmas.List.{get_or_past, take_all, drop_all}
use Rattle.std.proofs.lemmas.List.Folds.{list_any_more}
use Rattle.cov_types.specs.declared.kind.ProcessKind.{ProcessKind}
use Rattle.cov_types.specs.declared.kind.ProcessKind.TheVariants as kind
use Rattle.design_tree.specs.declared.design.Process.{Process}
use Rattle.design_tree.specs.declared.design.Design.{Design}
use Rattle.circuit_run.specs.Kinds.{is_comb, is_clocked}
use Rattle.design_meaning.specs.Processes.{process_of, kind_of, no_process}
use Rattle.design_meaning.specs.Paths.{paths}
use Rattle.design_meaning.specs.Reach.{event_defers, defers_var, sets_var}
use Rattle.design_meaning.specs.Flow.{IsMixed}
use Rattle.flow_marks.specs.declared.span.Span.{Span}
use Rattle.flow_spans.specs.Reads.{IsSpanOf}
use Rattle.flow_uses.specs.declared.uses.Uses.{Uses}
use Rattle.flow_uses.specs.Uses.{AreUsesOf, has_var}
use Rattle.flow_least.specs.Least.{IsLeastOf, lesser_of}
use Rattle.flow_least.proofs.Lessers.{least_same, least_more}
use Rattle.flow_drivers.specs.Flags.{AreClear, AreWithin, IsMixedIn}

pub either_of : (a b : Bool) → (a || b) ≡ true → (a ≡ true) ⊎ (b ≡ true)
either_of true b h = inl refl
either_of false b h = inr h

pub or_left : (a b : Bool) → a ≡ true → (a || b) ≡ true
or_left true b h = refl
or_left false b h = absurd (cc h)

pub or_right : (a b : Bool) → b ≡ true → (a || b) ≡ true
or_right true b h = refl
or_right false b h = h

pub and_left : (a b : Bool) → (a && b) ≡ true → a ≡ true
and_left true b h = refl
and_left false b h = h

pub and_right : (a b : Bool) → (a && b) ≡ true → b ≡ true
and_right true b h = h
and_right false b h = absurd (cc h)

pub and_both : (a b : Bool) → a ≡ true → b ≡ true → (a && b) ≡ true
and_both true b h k = k
and_both false b h k = h

module _ (spans : List Span) (i : ℕ) (d : Span) (lt : i < length spans) where
  abbrev s : Span
  s = get_or spans i d

  pub var_more : (v : ℕ) → has_var (take (i + 1) spans) v ≡ (has_var (take i spans) v || (s.var == v))
  var_more v = list_any_more (λ (t : Span). t.var == v) spans i d lt

  -- ---- flags that are set

  one_set : (flags : List Bool) (v : ℕ) (value h f : Bool) → s.var < length flags → get_or flags v false ≡ (if h then value else f)
      → get_or (set flags s.var value) v false ≡ (if h || (s.var == v) then value else f)
  one_set flags v value h f inside e = go (s.var == v) refl
    where
      same : (a : Bool) → value ≡ (if a || true then value else f)
      same true = refl
      same false = refl

      other : (a : Bool) → (if a then value else f) ≡ (if a || false then value else f)
      other true = refl
      other false = refl

      go : (b : Bool) → (s.var == v) ≡ b → get_or (set flags s.var value) v false ≡ (if h || b then value else f)
      go true k = subst (λ w. get_or (set flags s.var value) w false ≡ value) (eqb-true s.var v k) (get_or-set_same flags s.var value false inside) ∙ same h
      go false k = get_or-set_other flags s.var v value false (λ q. absurd (cc (k, eq-eqb s.var v (sym q)))) ∙ e ∙ other h

  pub flag_next : (flags f0 : List Bool) (value : Bool) → s.var < length flags
      → ((v : ℕ) → get_or flags v false ≡ (if has_var (take i spans) v then value else get_or f0 v false))
      → (v : ℕ) → get_or (set flags s.var value) v false ≡ (if has_var (take (i + 1) spans) v then value else get_or f0 v false)
  flag_next flags f0 value inside h v = one_set flags v value (has_var (take i spans) v) (get_or f0 v false) inside (h v)
      ∙ ap (λ b. if b then value else get_or f0 v false) (sym (var_more v))

  -- ---- the least of some kind

  pub flagged_next : (g : ℕ → Bool) (a : Option ℕ) → IsLeastOf (λ v. IsTrue (has_var (take i spans) v && g v)) a → g s.var ≡ true
      → IsLeastOf (λ v. IsTrue (has_var (take (i + 1) spans) v && g v)) (lesser_of a (Some s.var))
  flagged_next g a h k = least_more (λ v. IsTrue (has_var (take i spans) v && g v)) (λ v. IsTrue (has_var (take (i + 1) spans) v && g v)) a s.var h
      (λ w x. and_both (has_var (take (i + 1) spans) w) (g w) (var_more w
      ∙ or_left (has_var (take i spans) w) (s.var == w) (and_left (has_var (take i spans) w) (g w) x)) (and_right (has_var (take i spans) w) (g w) x))
      (and_both (has_var (take (i + 1) spans) s.var) (g s.var) (var_more s.var
      ∙ or_right (has_var (take i spans) s.var) (s.var == s.var) (eq-eqb s.var s.var refl)) k)
      (λ w x. elim (either_of (has_var (take i spans) w) (s.var == w) (sym (var_more w) ∙ and_left (has_var (take (i + 1) spans) w) (g w) x)) [
        | inl e ↦ inl (and_both (has_var (take i spans) w) (g w) e (and_right (has_var (take (i + 1) spans) w) (g w) x))
        | inr e ↦ inr (sym (eqb-true s.var w e))
      ])

  pub flagged_pass : (g : ℕ → Bool) (a : Option ℕ) → IsLeastOf (λ v. IsTrue (has_var (take i spans) v && g v)) a → g s.var ≡ false
      → IsLeastOf (λ v. IsTrue (has_var (take (i + 1) spans) v && g v)) a
  flagged_pass g a h k = least_same (λ v. IsTrue (has_var (take i spans) v && g v)) (λ v. IsTrue (has_var (take (i + 1) spans) v && g v)) a
      (λ w x. and_both (has_var (take (i + 1) spans) w) (g w) (var_more w
      ∙ or_left (has_var (take i spans) w) (s.var == w) (and_left (has_var (take i spans) w) (g w) x)) (and_right (has_var (take i spans) w) (g w) x))
      (λ w x. elim (either_of (has_var (take i spans) w) (s.var == w) (sym (var_more w) ∙ and_left (has_var (take (i + 1) spans) w) (g w) x)) [
        | inl e ↦ and_both (has_var (take i spans) w) (g w) e (and_right (has_var (take (i + 1) spans) w) (g w) x)
        | inr e ↦ absurd (cc (k, ap g (eqb-true s.var w e), and_right (has_var (take (i + 1) spans) w) (g w) x))
      ])
      h

  pub var_next : (a : Option ℕ) → IsLeastOf (λ v. IsTrue (has_var (take i spans) v)) a
      → IsLeastOf (λ v. IsTrue (has_var (take (i + 1) spans) v)) (lesser_of a (Some s.var))
  var_next a h = least_more (λ v. IsTrue (has_var (take i spans) v)) (λ v. IsTrue (has_var (take (i + 1) spans) v)) a s.var h
      (λ w x. var_more w ∙ or_left (has_var (take i spans) w) (s.var == w) x)
      (var_more s.var ∙ or_right (has_var (take i spans) s.var) (s.var == s.var) (eq-eqb s.var s.var refl))
      (λ w x. elim (either_of (has_var (take i spans) w) (s.var == w) (sym (var_more w) ∙ x)) [ inl e ↦ inl e | inr e ↦ inr (sym (eqb-true s.var w e)) ])

-- ---- flags that are set and set back

pub marked_flag : (f0 f1 : List Bool) (h : ℕ → Bool) → AreClear f0 → ((v : ℕ) → get_or f1 v false ≡ (if h v then true else get_or f0 v false)) → (v : ℕ)
    → get_or f1 v false ≡ h v
marked_flag f0 f1 h c e v = e v ∙ ap (λ r. if h v then true else r) (c v) ∙ itself (h v)
  where
    itself : (b : Bool) → (if b then true else false) ≡ b
    itself true = refl
    itself false = refl

pub cleared_flag : (f0 f1 f2 : List Bool) (h : ℕ → Bool) → AreClear f0 → ((v : ℕ) → get_or f1 v false ≡ (if h v then true else get_or f0 v false))
    → ((v : ℕ) → get_or f2 v false ≡ (if h v then false else get_or f1 v false)) → AreClear f2
cleared_flag f0 f1 f2 h c e k v = k v ∙ ap (λ r. if h v then false else r) (marked_flag f0 f1 h c e v) ∙ never (h v)
  where
    never : (b : Bool) → (if b then false else b) ≡ false
    never true = refl
    never false = refl

pub within_vars : (d : Design) (p : ℕ) (u : Uses) (n : ℕ) → n ≡ length d.vars → AreUsesOf d p u → AreWithin n u
within_vars d p u n e h = record {
  reads = λ k t lt. subst (λ m. (get_or u.reads k t).var < m) (sym e) (h.reads_in k t lt).of_variable;
  sets = λ k t lt. subst (λ m. (get_or u.sets k t).var < m) (sym e) (h.sets_in k t lt).of_variable;
  defers = λ k t lt. subst (λ m. (get_or u.defers k t).var < m) (sym e) (h.defers_in k t lt).of_variable;
}

-- ---- the condition

module _ (d : Design) (p : ℕ) (u : Uses) (uses : AreUsesOf d p u) where
  mixed_in : (k : ProcessKind) → k ≡ kind_of d p → (v : ℕ) → IsMixedIn k u v → IsMixed d p v
  mixed_in kind.Comb e v x = record { deferred = sym (uses.defers v) ∙ x; kinds = inl (sym (ap is_comb e)) }
  mixed_in kind.Clocked e v x = record {
    deferred = sym (uses.defers v) ∙ and_left (has_var u.defers v) (has_var u.sets v) x;
    kinds = inr (sym (ap is_clocked e), sym (uses.sets v) ∙ and_right (has_var u.defers v) (has_var u.sets v) x);
  }
  mixed_in kind.Assign e v x = absurd x
  mixed_in kind.Initial e v x = absurd x
  mixed_in kind.Cover e v x = absurd x

  mixed_back : (k : ProcessKind) → k ≡ kind_of d p → (v : ℕ) → IsMixed d p v → IsMixedIn k u v
  mixed_back kind.Comb e v x = uses.defers v ∙ x.deferred
  mixed_back kind.Clocked e v x = elim x.kinds [
    | inl c ↦ absurd (cc (ap is_comb e, c))
    | inr c ↦ and_both (has_var u.defers v) (has_var u.sets v) (uses.defers v ∙ x.deferred) (uses.sets v ∙ c.1)
  ]
  mixed_back kind.Assign e v x = elim x.kinds [ inl c ↦ absurd (cc (ap is_comb e, c)) | inr c ↦ absurd (cc (ap is_clocked e, c.0)) ]
  mixed_back kind.Initial e v x = elim x.kinds [ inl c ↦ absurd (cc (ap is_comb e, c)) | inr c ↦ absurd (cc (ap is_clocked e, c.0)) ]
  mixed_back kind.Cover e v x = elim x.kinds [ inl c ↦ absurd (cc (ap is_comb e, c)) | inr c ↦ absurd (cc (ap is_clocked e, c.0)) ]

  pub mixed_is : (k : ProcessKind) → k ≡ kind_of d p → (a : Option ℕ) → IsLeastOf (IsMixedIn k u) a → IsLeastOf (IsMixed d p) a
  mixed_is k e a = least_same (IsMixedIn k u) (IsMixed d p) a (mixed_in k e) (mixed_back k e)

pub none_mixed : (d : Design) (p v : ℕ) → length d.processes ≤ p → IsMixed d p v → ⊥
none_mixed d p v le x = absurd
    (cc (ap (λ (process : Process). list_any (list_any (event_defers v)) (paths process.body)) (get_or_past d.processes p no_process le), x.deferred))

-- ---- a whole slice that was written goes back into its vector

pub back_is : {X : Type 0} (items new : List X) (n : ℕ) → length new ≡ length items → n ≡ length items → take n (new ++ drop (length new) items) ≡ new
back_is items new n e k = ap (λ z. take n (new ++ z)) (drop_all (length new) items (omega (arith, e))) ∙ ap (λ z. take n z) (append-nil new)
    ∙ take_all n new (omega (arith, e, k))
