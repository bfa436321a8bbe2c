-- Processes of a design by number, which its circuit has in lists by kind.
use Rattle.std.proofs.Common.{◌≡◌, ◌∙◌, sym, ap, subst, refl, ℕ, zero, suc, inl, inr, Bool, true, false, cond, ◌||◌, true≢false, List, [], ◌∷◌, map, filter}
use Rattle.std.proofs.lemmas.Bool.{cases_Bool}
use Rattle.std.specs.Prelude.{All, IsTrue, slice_index_or}
use Rattle.std.specs.List.{AllByRecursion, list_any}
use Rattle.cov_types.specs.declared.kind.ProcessKind.{ProcessKind}
use Rattle.design_tree.specs.declared.design.Process.{Process}
use Rattle.design_tree.specs.declared.design.Design.{Design}
use Rattle.circuit_run.specs.States.{State, Bit}
use Rattle.circuit_run.specs.Kinds.{settles}
use Rattle.circuit_run.specs.Circuits.{is_driven, states_after}
use Rattle.design_meaning.specs.Steps.{run_of}
use Rattle.design_meaning.specs.Processes.{processes_that, no_process, kind_of}
use Rattle.design_meaning.specs.Reach.{drives_of, drives}
use Rattle.design_meaning.specs.Circuit.{as_process, circuit_of}
use Rattle.design_meaning.specs.RunLaws.{after}
use Rattle.design_meaning.proofs.FlowFacts.{Settling}
use Rattle.design_meaning.proofs.Listed.{by_recursion, by_index, from_filter, to_filter}

-- ---- driven bits

abbrev driven_in : (ProcessKind → Bool) → Bit → List Process → Bool
driven_in sort b ps = list_any (λ p. p.drives b) (filter (λ p. sort p.kind) (map as_process ps))

abbrev at : List Process → ℕ → Process
at ps p = slice_index_or ps p no_process

first_or : (a b : Bool) → a ≡ true → (a || b) ≡ false → ⊥
first_or true b t h = true≢false h
first_or false b t h = true≢false (sym t)

second_or : (a b : Bool) → (a || b) ≡ false → b ≡ false
second_or true b h = absurd (true≢false h)
second_or false b h = h

none_in : (sort : ProcessKind → Bool) (b : Bit) (ps : List Process)
    → ((p : ℕ) → IsTrue (sort (at ps p).kind) → IsTrue (drives_of (at ps p).body b) → ⊥) → driven_in sort b ps ≡ false
none_in sort b [] h = refl
none_in sort b (p ∷ ps) h = elim (cases_Bool (sort p.kind)) [
  | inl e ↦ subst (λ c. list_any (λ q. q.drives b)
      (cond c (as_process p ∷ filter (λ q. sort q.kind) (map as_process ps)) (filter (λ q. sort q.kind) (map as_process ps))) ≡ false) (sym e)
      (elim (cases_Bool (drives_of p.body b)) [
        | inl t ↦ absurd (h zero e t)
        | inr n ↦ subst (λ c. (c || driven_in sort b ps) ≡ false) (sym n) (none_in sort b ps (λ k. h (suc k)))
      ])
  | inr e ↦ subst (λ c. list_any (λ q. q.drives b)
      (cond c (as_process p ∷ filter (λ q. sort q.kind) (map as_process ps)) (filter (λ q. sort q.kind) (map as_process ps))) ≡ false) (sym e)
      (none_in sort b ps (λ k. h (suc k)))
]

in_none : (sort : ProcessKind → Bool) → sort no_process.kind ≡ false → (b : Bit) (ps : List Process) → driven_in sort b ps ≡ false
    → (p : ℕ) → IsTrue (sort (at ps p).kind) → IsTrue (drives_of (at ps p).body b) → ⊥
in_none sort n b [] h p s d = absurd (cc (n, s))
in_none sort n b (p ∷ ps) h zero s d = first_or (drives_of p.body b) (driven_in sort b ps) d
    (subst (λ c. list_any (λ q. q.drives b)
    (cond c (as_process p ∷ filter (λ q. sort q.kind) (map as_process ps)) (filter (λ q. sort q.kind) (map as_process ps))) ≡ false) s h)
in_none sort n b (p ∷ ps) h (suc k) s d = in_none sort n b ps (elim (cases_Bool (sort p.kind)) [
  | inl e ↦ second_or (drives_of p.body b) (driven_in sort b ps)
      (subst (λ c. list_any (λ q. q.drives b)
      (cond c (as_process p ∷ filter (λ q. sort q.kind) (map as_process ps)) (filter (λ q. sort q.kind) (map as_process ps))) ≡ false) e h)
  | inr e ↦ subst (λ c. list_any (λ q. q.drives b)
      (cond c (as_process p ∷ filter (λ q. sort q.kind) (map as_process ps)) (filter (λ q. sort q.kind) (map as_process ps))) ≡ false) e h
]) k s d

-- where no process of these kinds drives a bit, none of the circuit does
pub none_driven : (d : Design) (sort : ProcessKind → Bool) (b : Bit) → ((p : ℕ) → IsTrue (sort (kind_of d p)) → IsTrue (drives d p b) → ⊥)
    → is_driven sort (circuit_of d) b ≡ false
none_driven d sort b h = none_in sort b d.processes h

-- and the other way
pub driven_none : (d : Design) (sort : ProcessKind → Bool) → sort no_process.kind ≡ false → (b : Bit) → is_driven sort (circuit_of d) b ≡ false
    → (p : ℕ) → IsTrue (sort (kind_of d p)) → IsTrue (drives d p b) → ⊥
driven_none d sort n b h = in_none sort n b d.processes h

-- ---- states that processes leave

picked : {X Y : Type 0} (f : X → Y) (b : Bool) (x : X) (xs : List X) {ys : List Y} → ys ≡ map f xs
    → cond b (f x ∷ ys) ys ≡ map f (cond b (x ∷ xs) xs)
picked f true x xs e = ap (λ zs. f x ∷ zs) e
picked f false x xs e = e

pub chosen : (sort : ProcessKind → Bool) (ps : List Process)
    → filter (λ p. sort p.kind) (map as_process ps) ≡ map as_process (filter (λ p. sort p.kind) ps)
chosen sort [] = refl
chosen sort (p ∷ ps) = picked as_process (sort p.kind) p (filter (λ q. sort q.kind) ps) (chosen sort ps)

states_of : (s : State) (ps : List Process) → map (λ p. (p.run s).state) (map as_process ps) ≡ map (λ p. (run_of p s).state) ps
states_of s [] = refl
states_of s (p ∷ ps) = ap (λ ss. (run_of p s).state ∷ ss) (states_of s ps)

pub states_are : (d : Design) (sort : ProcessKind → Bool) (s : State)
    → states_after sort (circuit_of d) s ≡ map (λ p. (run_of p s).state) (processes_that sort d)
states_are d sort s = ap (map (λ p. (p.run s).state)) (chosen sort d.processes) ∙ states_of s (processes_that sort d)

pub of_map : {X Y : Type 0} (P : Y → Type 0) (f : X → Y) (xs : List X) → AllByRecursion P (map f xs) → AllByRecursion (λ x. P (f x)) xs
of_map P f [] h = tt
of_map P f (x ∷ xs) h = (h.0, of_map P f xs h.1)

pub to_map : {X Y : Type 0} (P : Y → Type 0) (f : X → Y) (xs : List X) → AllByRecursion (λ x. P (f x)) xs → AllByRecursion P (map f xs)
to_map P f [] h = tt
to_map P f (x ∷ xs) h = (h.0, to_map P f xs h.1)

-- each assignment and combinational process leaves the state alone
abbrev pub Still : Design → State → Type 0
Still d s = (p : ℕ) → Settling d p → after d p s ≡ s

pub still_from : (d : Design) (s : State) → All (λ x. x ≡ s) (states_after settles (circuit_of d) s) → Still d s
still_from d s h p sp = from_filter (λ p. settles p.kind) (λ p. (run_of p s).state ≡ s) no_process refl d.processes
    (of_map (λ x. x ≡ s) (λ p. (run_of p s).state) (processes_that settles d)
    (by_recursion (λ x. x ≡ s) (map (λ p. (run_of p s).state) (processes_that settles d)) (subst (All (λ x. x ≡ s)) (states_are d settles s) h))) p sp

pub to_still : (d : Design) (s : State) → Still d s → All (λ x. x ≡ s) (states_after settles (circuit_of d) s)
to_still d s h = subst (All (λ x. x ≡ s)) (sym (states_are d settles s))
    (by_index (λ x. x ≡ s) (map (λ p. (run_of p s).state) (processes_that settles d))
    (to_map (λ x. x ≡ s) (λ p. (run_of p s).state) (processes_that settles d)
    (to_filter (λ p. settles p.kind) (λ p. (run_of p s).state ≡ s) no_process d.processes (λ p t. h p t))))
