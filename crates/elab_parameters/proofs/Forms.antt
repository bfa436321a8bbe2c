-- Which forms of declarations give a size, and which give no constant.
use Rattle.std.proofs.Common.{◌≡◌, ◌∙◌, ap, sym, subst, refl, ℕ, ◌+◌, ◌-◌, ◌^◌, Bool, true, false, cond, not, ◌||◌, ◌&&◌, nat_lt}
use Rattle.std.proofs.Common.{List, [], ◌∷◌, Option, Some, None, Result, Ok, Err}
use Rattle.std.specs.Prelude.{ℤ, pos, negsuc}
use Rattle.vlog_tree.specs.declared.expression.RangeExpr.{RangeExpr}
use Rattle.vlog_tree.specs.declared.item.ParamForm.{ParamForm}
use Rattle.vlog_tree.specs.declared.item.ParamForm.TheVariants as form
use Rattle.source_meaning.specs.Meaning.{Meaning, fixed_integer}
use Rattle.scope_meaning.specs.Constants.{Names, is_wrong, constants, read, option_of, option_both, and_then}
use Rattle.scope_meaning.specs.Ranges.{Span, is_bound, kept_bound, outside, bound, is_true, span, span_between, parameter_constant, typed}
use Rattle.scope_meaning.specs.Wanted.{form_range}
use Rattle.elab_ranges.specs.declared.fault.RangeFault.{RangeFault}
use Rattle.elab_ranges.specs.declared.range.Span.{Span as Sized}
use Rattle.elab_ranges.specs.Bounds.{IsVector}
use Rattle.elab_faults.specs.Flaws.{first_flaw, vector_flaws, IsFlaw}
use Rattle.elab_faults.proofs.Flaws.{first}
use Rattle.elab_faults.proofs.Single.{vector-ok, vector-err}

-- ---- the bounds of a range that has a size

inside : (z : ℤ) (h : ℕ) → kept_bound z ≡ Some h → not (is_bound z) ≡ false
inside (pos k) h e = by (nat_lt k (2 ^ 31)) e
  where
    by : (b : Bool) → cond b (Some k) None ≡ Some h → not b ≡ false
    by true e = refl
    by false e = cc
inside (negsuc k) h e = cc

abbrev kept : Bool → Bool → Bool → Meaning → Option ℤ
kept n s w m = option_of fixed_integer (cond (is_wrong (record { name = n; select = s; wide = w })) None (Some m))

record IsRight (n s w : Bool) (m : Meaning) : Type 0 where
  name : n ≡ false
  select : s ≡ false
  wide : w ≡ false
  within : outside (kept n s w m) ≡ false

right_bound : (n s w : Bool) (m : Meaning) (h : ℕ) → and_then (kept n s w m) kept_bound ≡ Some h → IsRight n s w m
right_bound true s w m h e = cc
right_bound false true w m h e = cc
right_bound false false true m h e = cc
right_bound false false false m h e = record { name = refl; select = refl; wide = refl; within = inside (fixed_integer m) h e }

neither : (a b : Bool) → a ≡ false → b ≡ false → (a || b) ≡ false
neither a b h k = ap (λ x. x || b) h ∙ k

none_first : (n s r w : Bool) → n ≡ false → s ≡ false → r ≡ false → w ≡ false → first n s r w ≡ None
none_first n s r w h k l o =
    ap (λ x. first x s r w) h ∙ ap (λ x. first false x r w) k ∙ ap (λ x. first false false x w) l ∙ ap (λ x. first false false false x) o

record DescendsShortly (h l : ℕ) : Type 0 where
  falls : nat_lt h l ≡ false
  short : nat_lt 127 (h - l) ≡ false

descends : (h l : ℕ) (s : Span) → span_between h l ≡ Some s → DescendsShortly h l
descends h l s e = by (nat_lt h l) refl (nat_lt 127 (h - l)) refl e
  where
    by : (a : Bool) → nat_lt h l ≡ a → (b : Bool) → nat_lt 127 (h - l) ≡ b
        → cond (a || b) None (Some (record { width = h - l + 1; low = l; vector = true })) ≡ Some s → DescendsShortly h l
    by true p b q e = cc
    by false p true q e = cc
    by false p false q e = record { falls = p; short = q }

-- A range with a size has no flaw.
no_flaw : (known : Names) (r : RangeExpr) (s : Span) → span known (Some r) ≡ Some s → first_flaw (vector_flaws known (r ∷ [])) ≡ None
no_flaw known r s e = by (bound known r.high) refl (bound known r.low) refl e
  where
    by : (x : Option ℕ) → bound known r.high ≡ x → (y : Option ℕ) → bound known r.low ≡ y
        → and_then x (λ high. and_then y (span_between high)) ≡ Some s → first_flaw (vector_flaws known (r ∷ [])) ≡ None
    by None p y q e = cc
    by (Some h) p None q e = cc
    by (Some h) p (Some l) q e =
        let a = read (constants known) r.high in
        let b = read (constants known) r.low in
        let high = right_bound a.wrong.name a.wrong.select a.wrong.wide a.meaning h p in
        let low = right_bound b.wrong.name b.wrong.select b.wrong.wide b.meaning l q in
        let d = descends h l s e in
        let up : is_true (option_both nat_lt (bound known r.high) (bound known r.low)) ≡ false =
        ap (λ x. is_true (option_both nat_lt x (bound known r.low))) p ∙ ap (λ y. is_true (option_both nat_lt (Some h) y)) q ∙ d.falls in
        let far : is_true (option_both (λ x y. nat_lt 127 (x - y)) (bound known r.high) (bound known r.low)) ≡ false =
        ap (λ z. is_true (option_both (λ x y. nat_lt 127 (x - y)) z (bound known r.low))) p
        ∙ ap (λ z. is_true (option_both (λ x y. nat_lt 127 (x - y)) (Some h) z)) q ∙ d.short in
        none_first _ _ _ _ (neither _ _ high.name (neither _ _ low.name refl)) (neither _ _ high.select (neither _ _ low.select refl))
        (neither _ _ (neither _ _ (neither _ _ (neither _ _ high.within low.within) up) refl) refl)
        (neither _ _ (neither _ _ high.wide (neither _ _ low.wide refl)) (neither _ _ far refl))

-- A form with a flaw gives no constant.
pub no_constant : (known : Names) (f : ParamForm) (fault : RangeFault) → first_flaw (vector_flaws known (form_range f)) ≡ Some fault
    → (name : List ℕ) (m : Meaning) → parameter_constant known name m f ≡ None
no_constant known form.Plain fault e name m = cc
no_constant known form.Integer fault e name m = cc
no_constant known (form.Ranged signed r) fault e name m = by (span known (Some r)) refl
  where
    by : (o : Option Span) → span known (Some r) ≡ o → option_of (λ (s : Span). typed name s.width signed m) (span known (Some r)) ≡ None
    by None p = ap (option_of (λ (s : Span). typed name s.width signed m)) p
    by (Some s) p = let calm = no_flaw known r s p in cc

-- A form with a range has its size,
pub ranged : (known : Names) (f : ParamForm) (signed : Bool) (r : RangeExpr) (s : Sized) → f ≡ form.Ranged signed r → IsVector known r (Ok s)
    → (first_flaw (vector_flaws known (form_range f)) ≡ None)
    × ((name : List ℕ) (m : Meaning) → parameter_constant known name m f ≡ Some (typed name s.width signed m))
ranged known f signed r s is h =
    subst (λ (g : ParamForm). (first_flaw (vector_flaws known (form_range g)) ≡ None)
    × ((name : List ℕ) (m : Meaning) → parameter_constant known name m g ≡ Some (typed name s.width signed m))) (sym is)
    ((vector-ok known r s h).0, λ name m. ap (option_of (λ (z : Span). typed name z.width signed m)) h.1)

-- or the flaw of its range.
pub unranged : (known : Names) (f : ParamForm) (signed : Bool) (r : RangeExpr) (g : RangeFault) → f ≡ form.Ranged signed r → IsVector known r (Err g)
    → IsFlaw (vector_flaws known (form_range f)) g
unranged known f signed r g is h = subst (λ (x : ParamForm). IsFlaw (vector_flaws known (form_range x)) g) (sym is) (vector-err known r g h)
