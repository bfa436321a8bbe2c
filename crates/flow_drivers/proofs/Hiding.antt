-- Variables that a clocked process writes at once and that others see.
use Rattle.std.proofs.Common.{◌≡◌, ◌≢◌, ◌∙◌, sym, ap, subst, refl, ℕ, ◌+◌, ◌<◌, ◌≤◌, ◌==◌, ◌⊎◌, inl, inr, Bool, true, false, not, ◌||◌, ◌&&◌, if◌then◌else◌}
use Rattle.std.proofs.Common.{Option, Some, None, List, [], ◌∷◌, length, get_or, take, eqb-true, eq-eqb, arith}
use Rattle.std.specs.Prelude.{IsTrue, All, Contains}
use Rattle.std.specs.List.{list_any}
use Rattle.std.proofs.lemmas.Bool.{cases_lt}
use Rattle.std.proofs.lemmas.List.{get_or_past, get_or_read}
use Rattle.std.proofs.lemmas.List.Folds.{list_any_at}
use Rattle.cov_types.specs.declared.kind.ProcessKind.{ProcessKind}
use Rattle.cov_types.specs.declared.kind.ProcessKind.TheVariants as kind
use Rattle.design_tree.specs.declared.design.Process.{Process}
use Rattle.design_tree.specs.declared.design.Design.{Design}
use Rattle.design_tree.specs.declared.instrumented.Instrumented.{Instrumented}
use Rattle.circuit_run.specs.States.{Bit}
use Rattle.circuit_run.specs.Kinds.{is_clocked, is_initial}
use Rattle.design_meaning.specs.Processes.{kind_of, no_process}
use Rattle.design_meaning.specs.Paths.{paths}
use Rattle.design_meaning.specs.Reach.{event_reads, event_sets, event_defers, reads_bit, sets_var, defers_var}
use Rattle.design_meaning.specs.Valid.{IsValid, IsValidDesign}
use Rattle.design_meaning.specs.Flow.{IsNotPrivate, IsShared}
use Rattle.flow_marks.specs.declared.span.Span.{Span}
use Rattle.flow_uses.specs.declared.uses.Uses.{Uses}
use Rattle.flow_uses.specs.Uses.{AreUsesOf, has_var}
use Rattle.flow_least.specs.Least.{IsLeastOf}
use Rattle.flow_least.proofs.Lessers.{least_same}
use Rattle.flow_drivers.specs.declared.watch.Watch.{Watch}
use Rattle.flow_drivers.specs.Watching.{no_watch, seen_by_other, is_seen, IsSeenIn, IsToucher, IsWatch, IsToucherBefore, AreWatched, HasWatched, touches}
use Rattle.flow_drivers.proofs.Flagging.{either_of, or_left, or_right, and_left, and_right, and_both}
use Rattle.flow_drivers.proofs.Seeing.{some_at, seen_by, seen_if, watched_next, watched_pass}

-- past the last process nothing happens
nothing_past : (d : Design) (q : ℕ) (f : Process → Bool) → length d.processes ≤ q → f no_process ≡ false → f (get_or d.processes q no_process) ≡ false
nothing_past d q f le h = ap f (get_or_past d.processes q no_process le) ∙ h

toucher_stands : (d : Design) (v q : ℕ) → IsToucher d v q → length d.processes ≤ q → ⊥
toucher_stands d v q t le = elim t.touched [
  | inl x ↦ absurd (cc (nothing_past d q (λ (process : Process). list_any (list_any (event_reads x.0)) (paths process.body)) le refl, x.3))
  | inr x ↦ elim (either_of (sets_var d q v) (defers_var d q v) x) [
    | inl s ↦ absurd (cc (nothing_past d q (λ (process : Process). list_any (list_any (event_sets v)) (paths process.body)) le refl, s))
    | inr s ↦ absurd (cc (nothing_past d q (λ (process : Process). list_any (list_any (event_defers v)) (paths process.body)) le refl, s))
  ]
]

pub none_private : (d : Design) (p v : ℕ) → length d.processes ≤ p → IsNotPrivate d p v → ⊥
none_private d p v le x = absurd (cc (nothing_past d p (λ (process : Process). list_any (list_any (event_sets v)) (paths process.body)) le refl, x.assigned))

-- ---- outputs

pub outputs_stand : (d : Design) → IsValidDesign d → All (λ v. v < length d.vars) d.outputs
outputs_stand d v = subst (λ (d : Design). All (λ v. v < length d.vars) d.outputs) v.2 v.1.outputs.stand

is_output : (outputs : List ℕ) (v : ℕ) → list_any (λ o. o == v) outputs ≡ true → Contains outputs v
is_output outputs v h =
    let f : (k : ℕ) × (k < length outputs) × ((get_or outputs k v == v) ≡ true) = some_at (λ o. o == v) outputs v h in
    (f.0, f.1, eqb-true (get_or outputs f.0 v) v f.2)

output_is : (outputs : List ℕ) (v : ℕ) → Contains outputs v → list_any (λ o. o == v) outputs ≡ true
output_is outputs v c = list_any_at (λ o. o == v) outputs c.0 v c.1 (eq-eqb (get_or outputs c.0 v) v c.2)

-- ---- the condition

module _ (d : Design) (watches : List Watch) (outputs : List Bool) (are : AreWatched d (length d.processes) watches) (flags : (v : ℕ)
    → get_or outputs v false ≡ list_any (λ o. o == v) d.outputs)
    (p : ℕ) (u : Uses) (uses : AreUsesOf d p u) where
  stands : (v : ℕ) → has_var u.sets v ≡ true → v < length d.vars
  stands v h =
      let no_span : Span = record { var = 0; word = 0; word_end = 0; place = 0; place_end = 0 } in
      let f : (k : ℕ) × (k < length u.sets) × (((get_or u.sets k no_span).var == v) ≡ true) = some_at (λ (t : Span). t.var == v) u.sets no_span h in
      subst (λ w. w < length d.vars) (eqb-true (get_or u.sets f.0 no_span).var v f.2) (uses.sets_in f.0 no_span f.1).of_variable

  seen_in : (k : ProcessKind) → k ≡ kind_of d p → (v : ℕ) → IsSeenIn k u watches outputs p v → IsNotPrivate d p v
  seen_in kind.Clocked e v x =
      let s : has_var u.sets v ≡ true = and_left (has_var u.sets v) (is_seen watches outputs p v) x in
      record {
        kinds = sym (ap is_clocked e);
        assigned = sym (uses.sets v) ∙ s;
        seen = elim (either_of (get_or outputs v false) (seen_by_other (get_or watches v no_watch) p)
            (and_right (has_var u.sets v) (is_seen watches outputs p v) x)) [
              | inl o ↦ inr (is_output d.outputs v (sym (flags v) ∙ o))
              | inr o ↦ (let t : (q : ℕ) × (q ≢ p) × IsToucherBefore d (length d.processes) v q =
                  seen_by (IsToucherBefore d (length d.processes) v) (get_or watches v no_watch) p (are.each v (stands v s)) o in
                  inl (t.0, record { apart = t.1; kinds = t.2.is.kinds; touched = t.2.is.touched }))
            ];
      }
  seen_in kind.Assign e v x = absurd x
  seen_in kind.Comb e v x = absurd x
  seen_in kind.Initial e v x = absurd x
  seen_in kind.Cover e v x = absurd x

  before : (v q : ℕ) → IsToucher d v q → IsToucherBefore d (length d.processes) v q
  before v q t = elim (cases_lt q (length d.processes)) [
    | inl l ↦ record { before = l; is = t }
    | inr l ↦ absurd (toucher_stands d v q t l)
  ]

  seen_back : (k : ProcessKind) → k ≡ kind_of d p → (v : ℕ) → IsNotPrivate d p v → IsSeenIn k u watches outputs p v
  seen_back kind.Clocked e v x =
      let s : has_var u.sets v ≡ true = uses.sets v ∙ x.assigned in
      and_both (has_var u.sets v) (is_seen watches outputs p v) s (elim x.seen [
        | inl o ↦ or_right (get_or outputs v false) (seen_by_other (get_or watches v no_watch) p)
            (seen_if (IsToucherBefore d (length d.processes) v) (get_or watches v no_watch) p o.0 (are.each v (stands v s)) o.1.apart
            (before v o.0 (record { kinds = o.1.kinds; touched = o.1.touched })))
        | inr o ↦ or_left (get_or outputs v false) (seen_by_other (get_or watches v no_watch) p) (flags v ∙ output_is d.outputs v o)
      ])
  seen_back kind.Assign e v x = absurd (cc (ap is_clocked e, x.kinds))
  seen_back kind.Comb e v x = absurd (cc (ap is_clocked e, x.kinds))
  seen_back kind.Initial e v x = absurd (cc (ap is_clocked e, x.kinds))
  seen_back kind.Cover e v x = absurd (cc (ap is_clocked e, x.kinds))

  pub private_is : (k : ProcessKind) → k ≡ kind_of d p → (a : Option ℕ) → IsLeastOf (IsSeenIn k u watches outputs p) a → IsLeastOf (IsNotPrivate d p) a
  private_is k e a = least_same (IsSeenIn k u watches outputs p) (IsNotPrivate d p) a (seen_in k e) (seen_back k e)

-- ---- all processes

pub none_watched : (d : Design) (watches : List Watch) → length watches ≡ length d.vars → ((v : ℕ) → get_or watches v no_watch ≡ no_watch)
    → AreWatched d 0 watches
none_watched d watches n h = record {
  many = n;
  each = λ v lt. subst (IsWatch (IsToucherBefore d 0 v)) (sym (h v)) (λ q t. absurd (omega (arith, t.before)));
}

pub next_watched : (d : Design) (p : ℕ) (u : Uses) (old new : List Watch) → AreUsesOf d p u → is_initial (kind_of d p) ≡ false → AreWatched d p old
    → HasWatched old new u p
    → AreWatched d (p + 1) new
next_watched d p u old new uses k h w = record {
  many = w.many ∙ h.many;
  each = λ v lt. subst (IsWatch (IsToucherBefore d (p + 1) v)) (sym (w.each v)) (watched_next d v lt p u (get_or old v no_watch) uses k (h.each v lt));
}

pub pass_watched : (d : Design) (p : ℕ) (old : List Watch) → is_initial (kind_of d p) ≡ true → AreWatched d p old → AreWatched d (p + 1) old
pass_watched d p old k h = record { many = h.many; each = λ v lt. watched_pass d v lt p (get_or old v no_watch) k (h.each v lt) }
