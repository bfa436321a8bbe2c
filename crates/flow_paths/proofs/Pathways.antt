-- What a walk over a process finds of the conditions on paths.
use Rattle.std.proofs.Common.{◌≡◌, ◌∙◌, sym, ap, subst, refl, ℕ, ◌+◌, ◌<◌, ◌≤◌, inl, inr, Bool, true, false, not, ◌||◌, ◌&&◌, Option, Some, None, List, [], ◌∷◌}
use Rattle.std.proofs.Common.{length, get_or, arith}
use Rattle.std.specs.Prelude.{IsTrue}
use Rattle.std.specs.List.{list_any, list_all}
use Rattle.std.proofs.lemmas.List.{get_or_past}
use Rattle.cov_types.specs.declared.var.Var.{Var}
use Rattle.cov_types.specs.declared.kind.ProcessKind.{ProcessKind}
use Rattle.design_tree.specs.declared.step.Step.{Step}
use Rattle.design_tree.specs.declared.design.Process.{Process}
use Rattle.design_tree.specs.declared.design.Design.{Design}
use Rattle.circuit_run.specs.States.{Bit, IsBitOf}
use Rattle.circuit_run.specs.Kinds.{settles, is_comb}
use Rattle.design_meaning.specs.Processes.{process_of, kind_of, no_process}
use Rattle.design_meaning.specs.Flow.{IsLatch, IsReadBeforeWrite}
use Rattle.flow_marks.specs.declared.slot.Slot.{Slot}
use Rattle.flow_marks.specs.declared.trail.Spot.{Spot}
use Rattle.flow_marks.specs.Slots.{IsIn, slots_from}
use Rattle.flow_marks.specs.Sets.{MarkSet, has}
use Rattle.flow_marks.specs.Takes.{AreIn}
use Rattle.flow_uses.specs.declared.uses.Uses.{Uses}
use Rattle.flow_uses.specs.Uses.{AreUsesOf}
use Rattle.flow_least.specs.Least.{IsLeastOf, lesser_of}
use Rattle.flow_least.specs.Met.{HasMetEither, is_driven}
use Rattle.flow_least.proofs.Lessers.{least_same}
use Rattle.flow_least.proofs.OfVars.{bit_in, bit_of_vars}
use Rattle.flow_paths.specs.declared.walk.Walk.{Walk}
use Rattle.flow_paths.specs.Walking.{IsEmpty, IsReady, IsUnwritten, IsJoined, Passes, Branches, TakesAll, always_steps, early_steps}
use Rattle.flow_paths.specs.Faults.{IsFresh, IsKeptIn, IsEarlyIn, IsWalked, IsFirstBefore, first_of}
use Rattle.flow_least.specs.declared.place.Place.{Place}
use Rattle.flow_least.proofs.Searching.{before_more, first_is}
use Rattle.cov_types.specs.declared.kind.ProcessKind.TheVariants as kind
use Rattle.flow_paths.proofs.Passing.{ready_after}
use Rattle.flow_paths.proofs.Branching.{branch_taken}
use Rattle.flow_paths.proofs.StepPaths.{always_block, early_block}

and_left : (a b : Bool) → (a && b) ≡ true → a ≡ true
and_left true b h = refl
and_left false b h = h

and_right : (a b : Bool) → (a && b) ≡ true → b ≡ true
and_right true b h = h
and_right false b h = absurd (cc h)

not_true : (a : Bool) → not a ≡ true → a ≡ false
not_true true h = absurd (cc h)
not_true false h = refl

decide : (a : Bool) → (a ≡ true → ⊥) → a ≡ false
decide true h = absurd (h refl)
decide false h = refl

-- the driven bits were put in
module _ (vars : List Var) (u : Uses) (steps : List Step) (o a : Walk) (fresh : IsFresh vars o)
    (slots : a.left.slots ≡ o.left.slots) (bits : (b : Bit) → IsIn o.left.slots b → has a.left b ≡ ((true && is_driven u b) || has o.left b))
    (spare : a.spare ≡ o.spare) (trail : a.trail.items ≡ o.trail.items) (early : a.early ≡ None) where
  pub filled_ready : IsReady vars a
  filled_ready = record {
    left = slots ∙ fresh.ready.left;
    spare = ap (λ (m : MarkSet). m.slots) spare ∙ fresh.ready.spare;
    empty = subst IsEmpty (sym spare) fresh.ready.empty;
    trail = subst (λ t. AreIn a.left.slots t) (sym trail) (subst (λ (z : List Slot). AreIn z o.trail.items) (sym slots) fresh.ready.trail);
  }

  filled : (b : Bit) → IsIn a.left.slots b → has a.left b ≡ is_driven u b
  filled b h =
      let i : IsIn o.left.slots b = subst (λ (z : List Slot). IsIn z b) slots h in
      bits b i ∙ ap (λ r. is_driven u b || r) (fresh.none b i) ∙ or_nothing (is_driven u b)
    where
      or_nothing : (x : Bool) → (x || false) ≡ x
      or_nothing true = refl
      or_nothing false = refl

  -- all was walked and taken, and the trail is cleared
  pub walked : (n m f : Walk) (taken : List Spot) (latch : Option ℕ) → Branches a n taken (always_steps steps) (early_steps steps) → TakesAll n m taken
      → f.left ≡ m.left → f.spare ≡ m.spare → f.trail.items ≡ [] → f.early ≡ m.early → IsLeastOf (HasMetEither f.left u) latch → IsWalked vars u steps f latch
  walked n m f taken latch x y k l t e h = record {
    latch = least_same (HasMetEither f.left u) (IsKeptIn vars u steps) latch kept_in kept_back h;
    early = subst (IsLeastOf (IsEarlyIn vars u steps)) (sym (e ∙ p.reads.joined ∙ ap (λ r. lesser_of r p.reads.found) early))
        (least_same (IsUnwritten a.left (early_steps steps)) (IsEarlyIn vars u steps) p.reads.found early_in early_back p.reads.least);
    fresh = λ none. record {
      ready = record {
        left = ap (λ (z : MarkSet). z.slots) k ∙ r.left;
        spare = ap (λ (z : MarkSet). z.slots) l ∙ r.spare;
        empty = subst IsEmpty (sym l) r.empty;
        trail = subst (λ z. AreIn f.left.slots z) (sym t) (λ i d lt. absurd (omega (arith, lt)));
      };
      none = λ b i. decide (has f.left b) (λ g. subst (λ (q : Option ℕ). IsLeastOf (HasMetEither f.left u) q) none h b.var
          (record {
            common = b;
            of_variable = refl;
            here = i;
            within = sym (filled b (there b i))
                ∙ and_left (has a.left b) (not (always_steps steps b)) (sym (left b (there b i)) ∙ g);
            in_set = g;
          }));
      trail = t;
    };
  }
    where
      p : Passes a m (always_steps steps) (early_steps steps)
      p = branch_taken a n m taken (always_steps steps) (early_steps steps) x y

      r : IsReady vars m
      r = ready_after vars a m (always_steps steps) (early_steps steps) filled_ready p

      there : (b : Bit) → IsIn f.left.slots b → IsIn a.left.slots b
      there b i = subst (λ (z : List Slot). IsIn z b) (ap (λ (z : MarkSet). z.slots) k ∙ p.takes.slots) i

      back : (b : Bit) → IsIn a.left.slots b → IsIn f.left.slots b
      back b i = subst (λ (z : List Slot). IsIn z b) (sym (ap (λ (z : MarkSet). z.slots) k ∙ p.takes.slots)) i

      left : (b : Bit) → IsIn a.left.slots b → has f.left b ≡ (has a.left b && not (always_steps steps b))
      left b i = ap (λ (z : MarkSet). has z b) k ∙ p.takes.bits b i

      kept_in : (v : ℕ) → HasMetEither f.left u v → IsKeptIn vars u steps v
      kept_in v z = record {
        kept = z.common;
        of_variable = z.of_variable;
        here = bit_of_vars vars a.left.slots filled_ready.left z.common (there z.common z.here);
        driven = z.within;
        unwritten = not_true (always_steps steps z.common)
            (and_right (has a.left z.common) (not (always_steps steps z.common)) (sym (left z.common (there z.common z.here)) ∙ z.in_set));
      }

      kept_back : (v : ℕ) → IsKeptIn vars u steps v → HasMetEither f.left u v
      kept_back v z =
          let i : IsIn a.left.slots z.kept = bit_in vars a.left.slots filled_ready.left z.kept z.here in
          record {
            common = z.kept;
            of_variable = z.of_variable;
            here = back z.kept i;
            within = z.driven;
            in_set = left z.kept i ∙ ap (λ q. q && not (always_steps steps z.kept)) (filled z.kept i ∙ z.driven) ∙ ap (λ q. true && not q) z.unwritten;
          }

      early_in : (v : ℕ) → IsUnwritten a.left (early_steps steps) v → IsEarlyIn vars u steps v
      early_in v z = record {
        early = z.bit;
        of_variable = z.of_variable;
        here = bit_of_vars vars a.left.slots filled_ready.left z.bit z.here;
        driven = sym (filled z.bit z.here) ∙ z.is_left;
        read = z.of_kind;
      }

      early_back : (v : ℕ) → IsEarlyIn vars u steps v → IsUnwritten a.left (early_steps steps) v
      early_back v z =
          let i : IsIn a.left.slots z.early = bit_in vars a.left.slots filled_ready.left z.early z.here in
          record { bit = z.early; of_variable = z.of_variable; here = i; is_left = filled z.early i ∙ z.driven; of_kind = z.read }

-- ---- the conditions

module _ (d : Design) (p : ℕ) (u : Uses) (uses : AreUsesOf d p u) where
  pub latch_is : settles (kind_of d p) ≡ true → (a : Option ℕ) → IsLeastOf (IsKeptIn d.vars u (process_of d p).body) a → IsLeastOf (IsLatch d p) a
  latch_is k a = least_same (IsKeptIn d.vars u (process_of d p).body) (IsLatch d p) a
      (λ v x. record {
        kinds = k;
        kept = x.kept;
        of_variable = x.of_variable;
        here = x.here;
        driven = sym (uses.drives x.kept x.here) ∙ x.driven;
        unwritten = always_block x.kept (process_of d p).body ∙ x.unwritten;
      })
      (λ v x. record {
        kept = x.kept;
        of_variable = x.of_variable;
        here = x.here;
        driven = uses.drives x.kept x.here ∙ x.driven;
        unwritten = sym (always_block x.kept (process_of d p).body) ∙ x.unwritten;
      })

  pub early_is : is_comb (kind_of d p) ≡ true → (a : Option ℕ) → IsLeastOf (IsEarlyIn d.vars u (process_of d p).body) a → IsLeastOf (IsReadBeforeWrite d p) a
  early_is k a = least_same (IsEarlyIn d.vars u (process_of d p).body) (IsReadBeforeWrite d p) a
      (λ v x. record {
        kinds = k;
        early = x.early;
        of_variable = x.of_variable;
        here = x.here;
        driven = sym (uses.drives x.early x.here) ∙ x.driven;
        read = early_block x.early (process_of d p).body ∙ x.read;
      })
      (λ v x. record {
        early = x.early;
        of_variable = x.of_variable;
        here = x.here;
        driven = uses.drives x.early x.here ∙ x.driven;
        read = sym (early_block x.early (process_of d p).body) ∙ x.read;
      })

pub no_latch_of : (d : Design) (p v : ℕ) → settles (kind_of d p) ≡ false → IsLatch d p v → ⊥
no_latch_of d p v k x = absurd (cc (k, x.kinds))

pub not_early_of : (d : Design) (p v : ℕ) → is_comb (kind_of d p) ≡ false → IsReadBeforeWrite d p v → ⊥
not_early_of d p v k x = absurd (cc (k, x.kinds))

-- past the last process there is a cover
pub no_latch_past : (d : Design) (p v : ℕ) → length d.processes ≤ p → IsLatch d p v → ⊥
no_latch_past d p v le = no_latch_of d p v (ap (λ (process : Process). settles process.kind) (get_or_past d.processes p no_process le))

pub not_early_past : (d : Design) (p v : ℕ) → length d.processes ≤ p → IsReadBeforeWrite d p v → ⊥
not_early_past d p v le = not_early_of d p v (ap (λ (process : Process). is_comb process.kind) (get_or_past d.processes p no_process le))

-- ---- one process after the other

pub first_next : (d : Design) (p : ℕ) (early : Option Place) (k : ProcessKind) (found : Option ℕ) → k ≡ kind_of d p → IsFirstBefore IsReadBeforeWrite d p early
    → (is_comb (kind_of d p) ≡ true → IsLeastOf (IsReadBeforeWrite d p) found) → IsFirstBefore IsReadBeforeWrite d (p + 1) (first_of early k p found)
first_next d p (Some x) k found e h f = h
first_next d p None kind.Comb None e h f = before_more IsReadBeforeWrite d p h (f (sym (ap is_comb e)))
first_next d p None kind.Comb (Some v) e h f = let l : IsLeastOf (IsReadBeforeWrite d p) (Some v) = f (sym (ap is_comb e)) in
    first_is IsReadBeforeWrite d p v h l.0 l.1
first_next d p None kind.Assign found e h f = before_more IsReadBeforeWrite d p h (λ w. not_early_of d p w (sym (ap is_comb e)))
first_next d p None kind.Clocked found e h f = before_more IsReadBeforeWrite d p h (λ w. not_early_of d p w (sym (ap is_comb e)))
first_next d p None kind.Initial found e h f = before_more IsReadBeforeWrite d p h (λ w. not_early_of d p w (sym (ap is_comb e)))
first_next d p None kind.Cover found e h f = before_more IsReadBeforeWrite d p h (λ w. not_early_of d p w (sym (ap is_comb e)))

comb_settles : (k : ProcessKind) → settles k ≡ false → is_comb k ≡ false
comb_settles kind.Assign h = refl
comb_settles kind.Comb h = absurd (cc h)
comb_settles kind.Clocked h = refl
comb_settles kind.Initial h = refl
comb_settles kind.Cover h = refl

-- a process that doesn't settle is passed over
pub first_pass : (d : Design) (p : ℕ) (early : Option Place) → settles (kind_of d p) ≡ false → IsFirstBefore IsReadBeforeWrite d p early
    → IsFirstBefore IsReadBeforeWrite d (p + 1) early
first_pass d p (Some x) k h = h
first_pass d p None k h = before_more IsReadBeforeWrite d p h (λ w. not_early_of d p w (comb_settles (kind_of d p) k))
