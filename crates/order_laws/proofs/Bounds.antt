-- Bounds of the variables that the targets of a process name.
use Rattle.std.proofs.Common.{◌≡◌, ℕ, suc, ◌<◌, Bool, true, List, [], ◌∷◌, sum_by, inl, inr, arith}
use Rattle.std.proofs.lemmas.Bool.{false≢true, or_cases, eqb-true}
use Rattle.std.proofs.lemmas.List.Sums.{sum_by-cons}
use Rattle.std.specs.Prelude.{IsTrue}
use Rattle.std.specs.List.{list_any}
use Rattle.design_tree.specs.declared.design.Design.{Design}
use Rattle.design_meaning.specs.Targets.{var_named}
use Rattle.design_meaning.specs.Paths.{Event, reads, sets, defers}
use Rattle.design_meaning.specs.Reach.{event_sets, event_defers, paths_of, somewhere}

-- where each element that passes a test is above v, so is the sum once one passes
below_sum : {X : Type 0} (f : X → ℕ) (test : X → Bool) (v : ℕ) → ((x : X) → test x ≡ true → v < f x) → (xs : List X) → list_any test xs ≡ true → v < sum_by f xs
below_sum f test v above [] h = absurd (false≢true h)
below_sum f test v above (x ∷ xs) h = elim (or_cases (test x) (list_any test xs) h) [
  | inl here ↦ let a : v < f x = above x here in omega (arith, a, sum_by-cons f x xs)
  | inr rest ↦ let a : v < sum_by f xs = below_sum f test v above xs rest in omega (arith, a, sum_by-cons f x xs)
]

-- above the variable that an event writes
abbrev above : Event → ℕ
above (reads spans) = 0
above (sets target) = suc (var_named target)
above (defers target) = suc (var_named target)

abbrev pub above_all : Design → ℕ → ℕ
above_all d p = sum_by (sum_by above) (paths_of d p)

below : (test : Event → Bool) (v : ℕ) → ((e : Event) → test e ≡ true → v < above e) → (d : Design) (p : ℕ) → IsTrue (somewhere test d p) → v < above_all d p
below test v each d p h = below_sum (sum_by above) (list_any test) v (below_sum above test v each) (paths_of d p) h

set_above : (v : ℕ) (e : Event) → event_sets v e ≡ true → v < above e
set_above v (reads spans) h = absurd (false≢true h)
set_above v (sets target) h = let e : var_named target ≡ v = eqb-true (var_named target) v h in omega (arith, e)
set_above v (defers target) h = absurd (false≢true h)

deferred_above : (v : ℕ) (e : Event) → event_defers v e ≡ true → v < above e
deferred_above v (reads spans) h = absurd (false≢true h)
deferred_above v (sets target) h = absurd (false≢true h)
deferred_above v (defers target) h = let e : var_named target ≡ v = eqb-true (var_named target) v h in omega (arith, e)

pub set_below : (d : Design) (p v : ℕ) → IsTrue (somewhere (event_sets v) d p) → v < above_all d p
set_below d p v = below (event_sets v) v (set_above v) d p

pub deferred_below : (d : Design) (p v : ℕ) → IsTrue (somewhere (event_defers v) d p) → v < above_all d p
deferred_below d p v = below (event_defers v) v (deferred_above v) d p
