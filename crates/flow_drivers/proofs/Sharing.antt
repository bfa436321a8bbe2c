-- Bits that two processes drive.
use Rattle.std.proofs.Common.{◌≡◌, ◌∙◌, sym, ap, subst, refl, ℕ, ◌+◌, ◌<◌, ◌≤◌, ◌⊎◌, inl, inr, Bool, true, false, not, ◌||◌, ◌&&◌, Option, List, [], ◌∷◌, zero}
use Rattle.std.proofs.Common.{suc, length, get_or, take, arith}
use Rattle.std.specs.Prelude.{IsTrue, All, Any}
use Rattle.std.specs.List.{list_any}
use Rattle.std.proofs.lemmas.List.{get_or_read, get_or_past}
use Rattle.std.proofs.lemmas.List.Folds.{list_any_more, list_any_at, Any-from_list_any}
use Rattle.cov_types.specs.declared.var.Var.{Var}
use Rattle.cov_types.specs.declared.kind.ProcessKind.{ProcessKind}
use Rattle.cov_types.specs.declared.kind.ProcessKind.TheVariants as kind
use Rattle.design_tree.specs.declared.design.Process.{Process}
use Rattle.design_tree.specs.declared.design.Design.{Design}
use Rattle.circuit_run.specs.States.{Bit, IsBitOf}
use Rattle.circuit_run.specs.Kinds.{settles, is_initial}
use Rattle.design_meaning.specs.Processes.{process_of, kind_of, no_process}
use Rattle.design_meaning.specs.Reach.{drives, drives_of}
use Rattle.design_meaning.specs.Flow.{HasTwoDrivers, clash}
use Rattle.design_meaning.proofs.ListLaws.{left_true, right_true, and_from}
use Rattle.flow_marks.specs.Slots.{IsIn, slots_from}
use Rattle.flow_marks.specs.Sets.{MarkSet, has}
use Rattle.flow_uses.specs.declared.uses.Uses.{Uses}
use Rattle.flow_uses.specs.Uses.{AreUsesOf}
use Rattle.flow_least.specs.Least.{IsLeastOf}
use Rattle.flow_least.specs.Met.{HasMetEither, AreMarked, is_driven}
use Rattle.flow_least.proofs.Lessers.{least_same}
use Rattle.flow_least.proofs.OfVars.{bit_in, bit_of_vars, spans_in}
use Rattle.flow_drivers.specs.declared.drivers.Driven.{Driven}
use Rattle.flow_drivers.specs.Driven.{driven_before, any_kind, lasts, asked_of, asked_kinds, IsNone, AreNone, HasMarked, IsTaken, AreTaken, IsBefore, AreBefore}

clashes : (a b : ProcessKind) → clash a b ≡ asked_kinds a b
clashes kind.Assign b = both_true (not (is_initial b))
  where
    both_true : (a : Bool) → ((a || true) || settles b) ≡ true
    both_true true = refl
    both_true false = refl
clashes kind.Comb b = both_true (not (is_initial b))
  where
    both_true : (a : Bool) → ((a || true) || settles b) ≡ true
    both_true true = refl
    both_true false = refl
clashes kind.Clocked kind.Assign = refl
clashes kind.Clocked kind.Comb = refl
clashes kind.Clocked kind.Clocked = refl
clashes kind.Clocked kind.Initial = refl
clashes kind.Clocked kind.Cover = refl
clashes kind.Initial kind.Assign = refl
clashes kind.Initial kind.Comb = refl
clashes kind.Initial kind.Clocked = refl
clashes kind.Initial kind.Initial = refl
clashes kind.Initial kind.Cover = refl
clashes kind.Cover kind.Assign = refl
clashes kind.Cover kind.Comb = refl
clashes kind.Cover kind.Clocked = refl
clashes kind.Cover kind.Initial = refl
clashes kind.Cover kind.Cover = refl

-- ---- processes that pass a test, among the first ones

found : (f : Process → Bool) (xs : List Process) (p : ℕ) → list_any f (take p xs) ≡ true → (q : ℕ) × (q < p) × (f (get_or xs q no_process) ≡ true)
found f [] zero h = absurd (cc h)
found f [] (suc p) h = absurd (cc h)
found f (x ∷ xs) zero h = absurd (cc h)
found f (x ∷ xs) (suc p) h = go (f x) refl h (found f xs p)
  where
    go : (b : Bool) → f x ≡ b → (b || list_any f (take p xs)) ≡ true → (list_any f (take p xs) ≡ true → (q : ℕ) × (q < p) × (f (get_or xs q no_process) ≡ true))
        → (q : ℕ) × (q < suc p) × (f (get_or (x ∷ xs) q no_process) ≡ true)
    go true e k rest = (0, omega arith, e)
    go false e k rest =
        let r : (q : ℕ) × (q < p) × (f (get_or xs q no_process) ≡ true) = rest k in
        let l : r.0 < p = r.1 in (suc r.0, omega (arith, l), r.2)

held : (f : Process → Bool) (xs : List Process) (p q : ℕ) → q < p → q < length xs → f (get_or xs q no_process) ≡ true → list_any f (take p xs) ≡ true
held f [] p q lt inside h = absurd (omega (arith, inside))
held f (x ∷ xs) zero q lt inside h = absurd (omega (arith, lt))
held f (x ∷ xs) (suc p) zero lt inside h = ap (λ r. r || list_any f (take p xs)) h
held f (x ∷ xs) (suc p) (suc q) lt inside h = either (f x) (held f xs p q (omega (arith, lt)) (omega (arith, inside)) h)
  where
    either : (a : Bool) → list_any f (take p xs) ≡ true → (a || list_any f (take p xs)) ≡ true
    either true k = refl
    either false k = k

-- ---- before the first process, and one process more

none_before : (d : Design) (test : ProcessKind → Bool) (m : MarkSet) → IsNone d.vars m → IsBefore d 0 test m
none_before d test m h = record { slots = h.slots; bits = λ b i. h.none b }

pub none_are : (d : Design) (x : Driven) → AreNone d.vars x → AreBefore d 0 x
none_are d x h = record {
  by_any = none_before d any_kind x.by_any h.by_any;
  by_lasting = none_before d lasts x.by_lasting h.by_lasting;
  by_settling = none_before d settles x.by_settling h.by_settling;
}

before_more : (d : Design) (test : ProcessKind → Bool) (p : ℕ) (b : Bit) → p < length d.processes
    → driven_before test d (p + 1) b ≡ (driven_before test d p b || (test (kind_of d p) && drives d p b))
before_more d test p b lt = list_any_more (λ (process : Process). test process.kind && drives_of process.body b) d.processes p no_process lt

module _ (d : Design) (p : ℕ) (u : Uses) (lt : p < length d.processes) (uses : AreUsesOf d p u) where
  pub marked_in : (m : MarkSet) → m.slots ≡ slots_from 0 0 d.vars → AreMarked m.slots u
  marked_in m of = record { sets = spans_in d.vars m.slots of u.sets uses.sets_in; defers = spans_in d.vars m.slots of u.defers uses.defers_in }

  pub all_marked : (x : Driven) → AreBefore d p x → HasMarked x u
  all_marked x h = record {
    by_any = marked_in x.by_any h.by_any.slots;
    by_lasting = marked_in x.by_lasting h.by_lasting.slots;
    by_settling = marked_in x.by_settling h.by_settling.slots;
  }

  one_more : (test : ProcessKind → Bool) (m n : MarkSet) → IsBefore d p test m → IsTaken m n (test (kind_of d p)) u → IsBefore d (p + 1) test n
  one_more test m n h t = record {
    slots = t.slots ∙ h.slots;
    bits = λ b i. t.bits b (bit_in d.vars m.slots h.slots b i)
        ∙ ap (λ r. (test (kind_of d p) && r) || has m b) (uses.drives b i) ∙ ap (λ r. (test (kind_of d p) && drives d p b) || r) (h.bits b i)
        ∙ turned (test (kind_of d p) && drives d p b) (driven_before test d p b) ∙ sym (before_more d test p b lt);
  }
    where
      turned : (a b : Bool) → (a || b) ≡ (b || a)
      turned true true = refl
      turned true false = refl
      turned false true = refl
      turned false false = refl

  pub next_are : (x y : Driven) (k : ProcessKind) → k ≡ kind_of d p → AreBefore d p x → AreTaken x y k u → AreBefore d (p + 1) y
  next_are x y k e h t = record {
    by_any = one_more any_kind x.by_any y.by_any h.by_any t.by_any;
    by_lasting = one_more lasts x.by_lasting y.by_lasting h.by_lasting (subst (λ k. IsTaken x.by_lasting y.by_lasting (lasts k) u) e t.by_lasting);
    by_settling = one_more settles x.by_settling y.by_settling h.by_settling (subst (λ k. IsTaken x.by_settling y.by_settling (settles k) u) e t.by_settling);
  }

  -- ---- who else drives a bit

  asked_before : (k : ProcessKind) (x : Driven) → AreBefore d p x → IsBefore d p (asked_kinds k) (asked_of k x)
  asked_before kind.Assign x h = h.by_any
  asked_before kind.Comb x h = h.by_any
  asked_before kind.Clocked x h = h.by_lasting
  asked_before kind.Initial x h = h.by_settling
  asked_before kind.Cover x h = h.by_lasting

  shared_in : (m : MarkSet) → IsBefore d p (asked_kinds (kind_of d p)) m → (v : ℕ) → HasMetEither m u v → HasTwoDrivers d p v
  shared_in m h v x =
      let i : IsBitOf d.vars x.common = bit_of_vars d.vars m.slots h.slots x.common x.here in
      let f = found (λ (process : Process). asked_kinds (kind_of d p) process.kind && drives_of process.body x.common) d.processes p (sym (h.bits x.common i)
      ∙ x.in_set) in
      record {
        other = f.0;
        less = f.1;
        kinds = clashes (kind_of d p) (kind_of d f.0) ∙ left_true (asked_kinds (kind_of d p) (kind_of d f.0)) (drives d f.0 x.common) f.2;
        shared = x.common;
        of_variable = x.of_variable;
        here = i;
        driven = sym (uses.drives x.common i) ∙ x.within;
        by_other = right_true (asked_kinds (kind_of d p) (kind_of d f.0)) (drives d f.0 x.common) f.2;
      }

  shared_back : (m : MarkSet) → IsBefore d p (asked_kinds (kind_of d p)) m → (v : ℕ) → HasTwoDrivers d p v → HasMetEither m u v
  shared_back m h v x = record {
    common = x.shared;
    of_variable = x.of_variable;
    here = bit_in d.vars m.slots h.slots x.shared x.here;
    within = uses.drives x.shared x.here ∙ x.driven;
    in_set = h.bits x.shared x.here ∙ held (λ (process : Process). asked_kinds (kind_of d p) process.kind && drives_of process.body x.shared) d.processes p
        x.other x.less (omega (arith, lt, x.less))
        (and_from (asked_kinds (kind_of d p) (kind_of d x.other)) (drives d x.other x.shared) (sym (clashes (kind_of d p) (kind_of d x.other))
        ∙ x.kinds) x.by_other);
  }

  pub shared_is : (x : Driven) (k : ProcessKind) → k ≡ kind_of d p → AreBefore d p x → (a : Option ℕ) → IsLeastOf (HasMetEither (asked_of k x) u) a
      → IsLeastOf (HasTwoDrivers d p) a
  shared_is x k e h a = subst (λ k. IsLeastOf (HasMetEither (asked_of k x) u) a → IsLeastOf (HasTwoDrivers d p) a) (sym e)
      (least_same (HasMetEither (asked_of (kind_of d p) x) u) (HasTwoDrivers d p) a
      (shared_in (asked_of (kind_of d p) x) (asked_before (kind_of d p) x h)) (shared_back (asked_of (kind_of d p) x) (asked_before (kind_of d p) x h)))

-- past the last process nothing is driven
pub none_past : (d : Design) (p v : ℕ) → length d.processes ≤ p → HasTwoDrivers d p v → ⊥
none_past d p v le x = absurd (cc (ap (λ (process : Process). drives_of process.body x.shared) (get_or_past d.processes p no_process le), x.driven))
