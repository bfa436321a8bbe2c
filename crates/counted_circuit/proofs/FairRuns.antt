-- In every run each `if` is entered as often as the arm around it: the proof.
use Rattle.std.specs.Prelude.{◌≡◌, refl, ℕ, ◌+◌, ◌≤◌, ◌<◌, List, [], ◌∷◌, ◌++◌}
use Rattle.std.specs.List.{AllByRecursion}
use Rattle.std.proofs.Common.{sym, ◌∙◌, ap₂, subst, arith}
use Rattle.counted_circuit.proofs.Same.{number_after_process}
use Rattle.design_tree.specs.declared.design.Process.{Process}
use Rattle.circuit_run.specs.States.{State}
use Rattle.circuit_run.specs.Circuits.{Process as CircuitProcess}
use Rattle.circuit_run.specs.Runs.{Run, IsRun, all_notes}
use Rattle.circuit_law.proofs.NotesOfRuns.{of_run}
use Rattle.design_tree.specs.declared.design.Design.{Design}
use Rattle.counted_circuit.specs.Inserted.{AreCountedProcesses, no_processes, more}
use Rattle.circuit_run.specs.Lists.{how_many}
use Rattle.counted_circuit.proofs.HowMany.{how_many_joined}
use Rattle.counted_circuit.specs.Tells.{Fork}
use Rattle.counted_circuit.proofs.Fair.{IsInside, IsEven, all_map, all_joined, even_without}
use Rattle.counted_circuit.specs.Circuits.{told_run, arms_in, told_processes, told_circuit}
use Rattle.counted_circuit.specs.CountedDesign.{IsCountedDesign}
use Rattle.counted_circuit.specs.Balance.{process_forks, forks_from, forks_in, ForksBalance}
use Rattle.counted_circuit.proofs.FairProcesses.{fair_process}

-- ---- all processes

-- the numbers of an `if` are at least this
pub record IsFrom (n : ℕ) (f : Fork) : Type 0 where
  pub around : n ≤ f.around
  pub yes_arm : n ≤ f.yes_arm
  pub no_arm : n ≤ f.no_arm

none_from : (n : ℕ) (ns : List ℕ) → ((k : ℕ) → n ≤ k → how_many k ns ≡ 0) → (f : Fork) → IsFrom n f → IsEven ns f
none_from n ns none f i = even_without ns f (none f.around i.around) (none f.yes_arm i.yes_arm) (none f.no_arm i.no_arm)

from_inside : (n m k : ℕ) → k ≤ n → (f : Fork) → IsInside n m f → IsFrom k f
from_inside n m k low f i = record {
  around = let h = i.around_from in omega arith;
  yes_arm = let h = i.yes_from in omega arith;
  no_arm = let h = i.no_from in omega arith;
}

from_later : (n k : ℕ) → k ≤ n → (f : Fork) → IsFrom n f → IsFrom k f
from_later n k low f i = record {
  around = let h = i.around in omega arith;
  yes_arm = let h = i.yes_arm in omega arith;
  no_arm = let h = i.no_arm in omega arith;
}

-- the notes of the process have no number below n
abbrev NoneBelow : ℕ → CircuitProcess ℕ → Type 0
NoneBelow n q = (from : State) (k : ℕ) → k < n → how_many k (q.run from).notes ≡ 0

-- and each of these is even
abbrev AllEven : List Fork → CircuitProcess ℕ → Type 0
AllEven fs q = (from : State) → AllByRecursion (IsEven (q.run from).notes) fs

pub all_processes : (P Q R : CircuitProcess ℕ → Type 0) → ((q : CircuitProcess ℕ) → P q → Q q → R q) → (qs : List (CircuitProcess ℕ))
    → AllByRecursion P qs → AllByRecursion Q qs → AllByRecursion R qs
all_processes P Q R f [] h k = tt
all_processes P Q R f (q ∷ qs) h k = (f q h.0 k.0, all_processes P Q R f qs h.1 k.1)

module _ {carried : ℕ → List ℕ} where
  forks_are_from : {n m : ℕ} {ps qs : List Process} → AreCountedProcesses carried n ps qs m → AllByRecursion (IsFrom n) (forks_from n ps)
  forks_are_from no_processes = tt
  forks_are_from (more {n} {m} {k} {p} {q} {ps} {qs} c cs) =
      let f = fair_process c in
      let rest : AllByRecursion (IsFrom (n + arms_in p.kind p.body)) (forks_from (n + arms_in p.kind p.body) ps) =
      subst (λ j. AllByRecursion (IsFrom j) (forks_from j ps)) (number_after_process carried c) (forks_are_from cs) in
      all_joined (IsFrom n) (process_forks p.kind p.body n) (forks_from (n + arms_in p.kind p.body) ps)
      (all_map (IsInside n (n + arms_in p.kind p.body)) (IsFrom n) (from_inside n (n + arms_in p.kind p.body) n (omega arith)) (process_forks p.kind p.body n)
      f.inside)
      (all_map (IsFrom (n + arms_in p.kind p.body)) (IsFrom n) (from_later (n + arms_in p.kind p.body) n (omega arith))
      (forks_from (n + arms_in p.kind p.body) ps) rest)

  none_below : {n m : ℕ} (low : ℕ) {ps qs : List Process} → low ≤ n → AreCountedProcesses carried n ps qs m
      → AllByRecursion (NoneBelow low) (told_processes n ps)
  none_below low h no_processes = tt
  none_below low h (more {n} {m} {k} {p} {q} {ps} {qs} c cs) = (
    (λ from j below. (fair_process c).range from j (λ x y. omega arith)),
    subst (λ j. AllByRecursion (NoneBelow low) (told_processes j ps)) (number_after_process carried c)
        (none_below low (let e = number_after_process carried c in omega arith) cs),
  )

  even_in_all : {n m : ℕ} {ps qs : List Process} → AreCountedProcesses carried n ps qs m
      → AllByRecursion (AllEven (forks_from n ps)) (told_processes n ps)
  even_in_all no_processes = tt
  even_in_all (more {n} {m} {k} {p} {q} {ps} {qs} c cs) =
      let f = fair_process c in
      let next = n + arms_in p.kind p.body in
      let e = number_after_process carried c in (
        (λ from. all_joined (IsEven (told_run p.kind p.body n from).notes) (process_forks p.kind p.body n) (forks_from next ps)
            (f.even from)
            (all_map (IsFrom next) (IsEven (told_run p.kind p.body n from).notes)
            (none_from next (told_run p.kind p.body n from).notes (λ j x. f.range from j (λ y z. omega arith)))
            (forks_from next ps) (subst (λ j. AllByRecursion (IsFrom j) (forks_from j ps)) e (forks_are_from cs)))),
        all_processes (AllEven (forks_from next ps)) (NoneBelow next) (AllEven (process_forks p.kind p.body n ++ forks_from next ps))
            (λ r even none from. all_joined (IsEven (r.run from).notes) (process_forks p.kind p.body n) (forks_from next ps)
            (all_map (IsInside n next) (IsEven (r.run from).notes)
            (λ g i. even_without (r.run from).notes g (none from g.around i.around_to) (none from g.yes_arm i.yes_to) (none from g.no_arm i.no_to))
            (process_forks p.kind p.body n) f.inside)
            (even from))
            (told_processes next ps)
            (subst (λ j. AllByRecursion (AllEven (forks_from j ps)) (told_processes j ps)) e (even_in_all cs))
            (subst (λ j. AllByRecursion (NoneBelow j) (told_processes j ps)) e (none_below m (omega arith) cs)),
      )

-- ---- runs

even_none : (fs : List Fork) → AllByRecursion (IsEven []) fs
even_none [] = tt
even_none (f ∷ fs) = (refl, even_none fs)

sum_both : (a a' b b' c c' : ℕ) → a ≡ b + c → a' ≡ b' + c' → a + a' ≡ b + b' + (c + c')
sum_both a a' b b' c c' e f = omega arith

even_both : (fs : List Fork) (xs ys : List ℕ) → AllByRecursion (IsEven xs) fs → AllByRecursion (IsEven ys) fs → AllByRecursion (IsEven (xs ++ ys)) fs
even_both [] xs ys h k = tt
even_both (f ∷ fs) xs ys h k = (
  how_many_joined f.around xs ys
      ∙ sum_both (how_many f.around xs) (how_many f.around ys) (how_many f.yes_arm xs) (how_many f.yes_arm ys) (how_many f.no_arm xs) (how_many f.no_arm ys) h.0
      k.0
      ∙ sym (ap₂ (λ a b. a + b) (how_many_joined f.yes_arm xs ys) (how_many_joined f.no_arm xs ys)),
  even_both fs xs ys h.1 k.1,
)

-- in each run of a design each `if` is entered as often as the arm around it
pub runs_balance : {carried : ℕ → List ℕ} (d e : Design) (arms : ℕ) (rows : List (List ℕ)) (r : Run ℕ) → IsCountedDesign carried d e arms
    → IsRun (told_circuit d) rows r → AllByRecursion (IsEven (all_notes r)) (forks_in d)
runs_balance d e arms rows r i run =
    of_run (λ ns. AllByRecursion (IsEven ns) (forks_in d)) (even_none (forks_in d)) (even_both (forks_in d)) (told_circuit d)
    (even_in_all i.processes) rows r run

-- the law holds
pub forks_balance : ForksBalance
forks_balance d rows r plain_design run = runs_balance d d plain_design.0 rows r plain_design.1 run
