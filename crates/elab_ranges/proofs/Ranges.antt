-- Ranges by their bounds.
use Rattle.std.proofs.Common.{◌≡◌, ◌∙◌, sym, ap, refl, subst, ℕ, ◌+◌, ◌-◌, max, min, Bool, true, false, ◌||◌, ◌&&◌, cond, nat_lt, Option, Some, None, Result}
use Rattle.std.proofs.Common.{Ok, Err}
use Rattle.vlog_tree.specs.declared.expression.RangeExpr.{RangeExpr}
use Rattle.scope_meaning.specs.Constants.{Names, and_then, option_both}
use Rattle.scope_meaning.specs.Ranges as ranges
use Rattle.elab_constants.specs.declared.fault.ConstantFault.{ConstantFault}
use Rattle.elab_constants.specs.declared.fault.ConstantFault.TheVariants as reading
use Rattle.elab_ranges.specs.declared.fault.RangeFault.{RangeFault}
use Rattle.elab_ranges.specs.declared.fault.RangeFault.TheVariants as fault
use Rattle.elab_ranges.specs.declared.range.Span.{Span}
use Rattle.elab_ranges.specs.declared.range.Words.{Words}
use Rattle.elab_ranges.specs.Bounds.{Facts, facts, range_fault, span_of, IsVector, IsMemory, right, IsBound, both_bounds, between, words_between}

-- ---- two bounds

abbrev first_rule : Bool → Bool → Bool → Bool → Option RangeFault
first_rule n s o w = cond n (Some fault.NotConstant) (cond s (Some fault.BadSelect) (cond o (Some fault.BadRange) (cond w (Some fault.WidthPast128) None)))

at_name : (n s o w : Bool) → n ≡ true → first_rule n s o w ≡ Some fault.NotConstant
at_name n s o w h = ap (λ b. first_rule b s o w) h

at_select : (n s o w : Bool) → n ≡ false → s ≡ true → first_rule n s o w ≡ Some fault.BadSelect
at_select n s o w h k = ap (λ b. first_rule b s o w) h ∙ ap (λ b. first_rule false b o w) k

or_left : (a b : Bool) → a ≡ true → (a || b) ≡ true
or_left a b h = ap (λ x. x || b) h

or_right : (a b : Bool) → b ≡ true → (a || b) ≡ true
or_right true b h = refl
or_right false b h = h

or_neither : (a b : Bool) → a ≡ false → b ≡ false → (a || b) ≡ false
or_neither a b h k = ap (λ x. x || b) h ∙ k

at_facts : (v : Bool) (f g a b : Facts) → f ≡ a → g ≡ b → range_fault v f g ≡ range_fault v a b
at_facts v f g a b h k = ap (λ x. range_fault v x g) h ∙ ap (range_fault v a) k

abbrev IsFirst : Bool → Facts → Facts → RangeFault → Type 0
IsFirst v f g fault.NoMemory = Unit {0}
IsFirst v f g fault.NotConstant = range_fault v f g ≡ Some fault.NotConstant
IsFirst v f g fault.BadSelect = range_fault v f g ≡ Some fault.BadSelect
IsFirst v f g fault.BadRange = range_fault v f g ≡ Some fault.BadRange
IsFirst v f g fault.WidthPast128 = range_fault v f g ≡ Some fault.WidthPast128

abbrev Bound : Type 0
Bound = Result (Option ℕ) ConstantFault

-- what hinders two bounds is the first thing that is wrong with the range
abbrev Hinders : Bool → Facts → Facts → Result (ℕ × ℕ) RangeFault → Type 0
Hinders v f g (Ok p) = Unit {0}
Hinders v f g (Err e) = IsFirst v f g e

hinders : (v : Bool) (f g : Facts) (x y : Bound) → IsBound f x → IsBound g y → Hinders v f g (both_bounds x y)
hinders v f g (Err reading.NoMemory) y h k = tt
hinders v f g (Err reading.NotConstant) (Err reading.NoMemory) h k = tt
hinders v f g (Err reading.NotConstant) (Err reading.NotConstant) h k = at_name _ _ _ _ (or_left _ _ h)
hinders v f g (Err reading.NotConstant) (Err reading.BadSelect) h k = at_name _ _ _ _ (or_left _ _ h)
hinders v f g (Err reading.NotConstant) (Err reading.WidthPast128) h k = at_name _ _ _ _ (or_left _ _ h)
hinders v f g (Err reading.NotConstant) (Ok None) h k = at_name _ _ _ _ (or_left _ _ h)
hinders v f g (Err reading.NotConstant) (Ok (Some n)) h k = at_name _ _ _ _ (or_left _ _ h)
hinders v f g (Err reading.BadSelect) (Err reading.NoMemory) h k = tt
hinders v f g (Err reading.BadSelect) (Err reading.NotConstant) h k = at_name _ _ _ _ (or_right f.wrong.name g.wrong.name k)
hinders v f g (Err reading.BadSelect) (Err reading.BadSelect) h k = at_select _ _ _ _ (or_neither _ _ h.0 k.0) (or_left _ _ h.1)
hinders v f g (Err reading.BadSelect) (Err reading.WidthPast128) h k = at_select _ _ _ _ (or_neither _ _ h.0 (ap (λ (z : Facts). z.wrong.name) k))
    (or_left _ _ h.1)
hinders v f g (Err reading.BadSelect) (Ok None) h k = at_select _ _ _ _ (or_neither _ _ h.0 (ap (λ (z : Facts). z.wrong.name) k)) (or_left _ _ h.1)
hinders v f g (Err reading.BadSelect) (Ok (Some n)) h k = at_select _ _ _ _ (or_neither _ _ h.0 (ap (λ (z : Facts). z.wrong.name) k)) (or_left _ _ h.1)
hinders v f g (Err reading.WidthPast128) (Err reading.NoMemory) h k = tt
hinders v f g (Err reading.WidthPast128) (Err reading.NotConstant) h k = at_name _ _ _ _ (or_right f.wrong.name g.wrong.name k)
hinders v f g (Err reading.WidthPast128) (Err reading.BadSelect) h k =
    at_select _ _ _ _ (or_neither _ _ (ap (λ (z : Facts). z.wrong.name) h) k.0) (or_right f.wrong.select g.wrong.select k.1)
hinders v f g (Err reading.WidthPast128) (Err reading.WidthPast128) h k = at_facts v f g _ _ h k
hinders v f g (Err reading.WidthPast128) (Ok None) h k = at_facts v f g _ _ h k
hinders v f g (Err reading.WidthPast128) (Ok (Some n)) h k = at_facts v f g _ _ h k
hinders v f g (Ok None) (Err reading.NoMemory) h k = tt
hinders v f g (Ok None) (Err reading.NotConstant) h k = at_name _ _ _ _ (or_right f.wrong.name g.wrong.name k)
hinders v f g (Ok None) (Err reading.BadSelect) h k =
    at_select _ _ _ _ (or_neither _ _ (ap (λ (z : Facts). z.wrong.name) h) k.0) (or_right f.wrong.select g.wrong.select k.1)
hinders v f g (Ok None) (Err reading.WidthPast128) h k = at_facts v f g _ _ h k
hinders v f g (Ok None) (Ok None) h k = at_facts v f g _ _ h k
hinders v f g (Ok None) (Ok (Some n)) h k = at_facts v f g _ _ h k
hinders v f g (Ok (Some m)) (Err reading.NoMemory) h k = tt
hinders v f g (Ok (Some m)) (Err reading.NotConstant) h k = at_name _ _ _ _ (or_right f.wrong.name g.wrong.name k)
hinders v f g (Ok (Some m)) (Err reading.BadSelect) h k =
    at_select _ _ _ _ (or_neither _ _ (ap (λ (z : Facts). z.wrong.name) h) k.0) (or_right f.wrong.select g.wrong.select k.1)
hinders v f g (Ok (Some m)) (Err reading.WidthPast128) h k = at_facts v f g _ _ h k
hinders v f g (Ok (Some m)) (Ok None) h k = at_facts v f g _ _ h k
hinders v f g (Ok (Some m)) (Ok (Some n)) h k = tt

is_first : (known : Names) (r : RangeExpr) (f : RangeFault) → IsFirst true (facts known r.high) (facts known r.low) f → IsVector known r (Err f)
is_first known r fault.NoMemory h = tt
is_first known r fault.NotConstant h = h
is_first known r fault.BadSelect h = h
is_first known r fault.BadRange h = h
is_first known r fault.WidthPast128 h = h

is_first_of_memory : (known : Names) (r : RangeExpr) (f : RangeFault) → IsFirst false (facts known r.high) (facts known r.low) f → IsMemory known r (Err f)
is_first_of_memory known r fault.NoMemory h = tt
is_first_of_memory known r fault.NotConstant h = h
is_first_of_memory known r fault.BadSelect h = h
is_first_of_memory known r fault.BadRange h = h
is_first_of_memory known r fault.WidthPast128 h = h

pub vector_fails : (known : Names) (r : RangeExpr) (x y : Bound) (all : Result (ℕ × ℕ) RangeFault) (f : RangeFault) → all ≡ both_bounds x y → all ≡ Err f
    → IsBound (facts known r.high) x → IsBound (facts known r.low) y → IsVector known r (Err f)
vector_fails known r x y all f e g h k =
    is_first known r f
    (subst (Hinders true (facts known r.high) (facts known r.low)) (sym e ∙ g) (hinders true (facts known r.high) (facts known r.low) x y h k))

pub memory_fails : (known : Names) (r : RangeExpr) (x y : Bound) (all : Result (ℕ × ℕ) RangeFault) (f : RangeFault) → all ≡ both_bounds x y → all ≡ Err f
    → IsBound (facts known r.high) x → IsBound (facts known r.low) y → IsMemory known r (Err f)
memory_fails known r x y all f e g h k =
    is_first_of_memory known r f
    (subst (Hinders false (facts known r.high) (facts known r.low)) (sym e ∙ g) (hinders false (facts known r.high) (facts known r.low) x y h k))

-- ---- both are numbers

abbrev within : ℕ → Facts
within n = record { wrong = right; outside = false; bound = Some n }

abbrev AreNumbers : Facts → Facts → Result (ℕ × ℕ) RangeFault → Type 0
AreNumbers f g (Ok p) = (f ≡ within p.0) × (g ≡ within p.1)
AreNumbers f g (Err e) = Unit {0}

numbers : (f g : Facts) (x y : Bound) → IsBound f x → IsBound g y → AreNumbers f g (both_bounds x y)
numbers f g (Err reading.NoMemory) y h k = tt
numbers f g (Err reading.NotConstant) (Err reading.NoMemory) h k = tt
numbers f g (Err reading.NotConstant) (Err reading.NotConstant) h k = tt
numbers f g (Err reading.NotConstant) (Err reading.BadSelect) h k = tt
numbers f g (Err reading.NotConstant) (Err reading.WidthPast128) h k = tt
numbers f g (Err reading.NotConstant) (Ok y) h k = tt
numbers f g (Err reading.BadSelect) (Err reading.NoMemory) h k = tt
numbers f g (Err reading.BadSelect) (Err reading.NotConstant) h k = tt
numbers f g (Err reading.BadSelect) (Err reading.BadSelect) h k = tt
numbers f g (Err reading.BadSelect) (Err reading.WidthPast128) h k = tt
numbers f g (Err reading.BadSelect) (Ok y) h k = tt
numbers f g (Err reading.WidthPast128) (Err reading.NoMemory) h k = tt
numbers f g (Err reading.WidthPast128) (Err reading.NotConstant) h k = tt
numbers f g (Err reading.WidthPast128) (Err reading.BadSelect) h k = tt
numbers f g (Err reading.WidthPast128) (Err reading.WidthPast128) h k = tt
numbers f g (Err reading.WidthPast128) (Ok None) h k = tt
numbers f g (Err reading.WidthPast128) (Ok (Some n)) h k = tt
numbers f g (Ok None) (Err reading.NoMemory) h k = tt
numbers f g (Ok None) (Err reading.NotConstant) h k = tt
numbers f g (Ok None) (Err reading.BadSelect) h k = tt
numbers f g (Ok None) (Err reading.WidthPast128) h k = tt
numbers f g (Ok None) (Ok y) h k = tt
numbers f g (Ok (Some m)) (Err reading.NoMemory) h k = tt
numbers f g (Ok (Some m)) (Err reading.NotConstant) h k = tt
numbers f g (Ok (Some m)) (Err reading.BadSelect) h k = tt
numbers f g (Ok (Some m)) (Err reading.WidthPast128) h k = tt
numbers f g (Ok (Some m)) (Ok None) h k = tt
numbers f g (Ok (Some m)) (Ok (Some n)) h k = (h, k)

abbrev by_rules : ℕ → ℕ → Bool → Bool → Result Span RangeFault
by_rules h l b c = cond b (Err fault.BadRange) (cond c (Err fault.WidthPast128) (Ok (record { width = h - l + 1; low = l })))

vector_by : (known : Names) (r : RangeExpr) (h l : ℕ) → facts known r.high ≡ within h → facts known r.low ≡ within l
    → (b c : Bool) → nat_lt h l ≡ b → nat_lt 127 (h - l) ≡ c → IsVector known r (by_rules h l b c)
vector_by known r h l f g true c e k = at_facts true _ _ _ _ f g ∙ ap (λ x. first_rule false false (x && true) (nat_lt 127 (h - l) && true)) e
vector_by known r h l f g false true e k =
    at_facts true _ _ _ _ f g ∙ ap (λ x. first_rule false false (x && true) (nat_lt 127 (h - l) && true)) e
    ∙ ap (λ x. first_rule false false false (x && true)) k
vector_by known r h l f g false false e k = (
  at_facts true _ _ _ _ f g ∙ ap (λ x. first_rule false false (x && true) (nat_lt 127 (h - l) && true)) e
      ∙ ap (λ x. first_rule false false false (x && true)) k,
  ap (λ (x : Facts). and_then x.bound (λ high. and_then (ranges.bound known r.low) (ranges.span_between high))) f
      ∙ ap (λ (x : Facts). and_then x.bound (ranges.span_between h)) g
      ∙ ap (λ x. cond (x || nat_lt 127 (h - l)) None (Some (span_of (record { width = h - l + 1; low = l })))) e
      ∙ ap (λ x. cond x None (Some (span_of (record { width = h - l + 1; low = l })))) k,
)

and_false : (b : Bool) → (b && false) ≡ false
and_false true = refl
and_false false = refl

memory_by : (known : Names) (r : RangeExpr) (h l : ℕ) → facts known r.high ≡ within h → facts known r.low ≡ within l → IsMemory known r (Ok (words_between h l))
memory_by known r h l f g = (
  at_facts false _ _ _ _ f g ∙ ap (λ x. first_rule false false x (nat_lt 127 (h - l) && false)) (and_false (nat_lt h l))
      ∙ ap (λ x. first_rule false false false x) (and_false (nat_lt 127 (h - l))),
  ap (λ (x : Facts). option_both (λ a b. (max a b - min a b + 1, min a b)) x.bound (ranges.bound known r.low)) f
      ∙ ap (λ (x : Facts). option_both (λ a b. (max a b - min a b + 1, min a b)) (Some h) x.bound) g,
)

pub vector_reads : (known : Names) (r : RangeExpr) (x y : Bound) (all : Result (ℕ × ℕ) RangeFault) (p : ℕ × ℕ) (s : Result Span RangeFault)
    → all ≡ both_bounds x y → all ≡ Ok p → s ≡ between p.0 p.1 → IsBound (facts known r.high) x → IsBound (facts known r.low) y → IsVector known r s
vector_reads known r x y all p s e g z h k =
    subst (IsVector known r) (sym z)
    (both_are (subst (AreNumbers (facts known r.high) (facts known r.low)) (sym e ∙ g) (numbers (facts known r.high) (facts known r.low) x y h k)))
  where
    both_are : AreNumbers (facts known r.high) (facts known r.low) (Ok p) → IsVector known r (between p.0 p.1)
    both_are q = vector_by known r p.0 p.1 q.0 q.1 (nat_lt p.0 p.1) (nat_lt 127 (p.0 - p.1)) refl refl

pub memory_reads : (known : Names) (r : RangeExpr) (x y : Bound) (all : Result (ℕ × ℕ) RangeFault) (p : ℕ × ℕ) (s : Words)
    → all ≡ both_bounds x y → all ≡ Ok p → s ≡ words_between p.0 p.1 → IsBound (facts known r.high) x → IsBound (facts known r.low) y → IsMemory known r (Ok s)
memory_reads known r x y all p s e g z h k =
    subst (λ w. IsMemory known r (Ok w)) (sym z)
    (both_are (subst (AreNumbers (facts known r.high) (facts known r.low)) (sym e ∙ g) (numbers (facts known r.high) (facts known r.low) x y h k)))
  where
    both_are : AreNumbers (facts known r.high) (facts known r.low) (Ok p) → IsMemory known r (Ok (words_between p.0 p.1))
    both_are q = memory_by known r p.0 p.1 q.0 q.1
