-- The notes of a process: its numbers alone, and each of its `if` even.
use Rattle.std.specs.Prelude.{◌≡◌, refl, ℕ, ◌+◌, ◌==◌, cond, List, [], ◌∷◌, map, filter}
use Rattle.std.specs.List.{AllByRecursion}
use Rattle.std.proofs.Common.{sym, ◌∙◌, ap, arith, inl, inr}
use Rattle.std.proofs.lemmas.Bool.Decides.{eqb_tells}
use Rattle.design_tree.specs.declared.step.Step.TheVariants as s
use Rattle.design_tree.specs.declared.step.Step.{Step}
use Rattle.design_tree.specs.declared.design.Process.{Process}
use Rattle.cov_types.specs.declared.kind.ProcessKind.{ProcessKind}
use Rattle.circuit_run.specs.States.{State}
use Rattle.counted_circuit.specs.Inserted.{AreCounted, plain, no_steps, IsCountedProcess, assignment, cover, comb, clocked, initial}
use Rattle.circuit_run.specs.Lists.{how_many}
use Rattle.counted_circuit.proofs.HowMany.{of_other}
use Rattle.counted_circuit.specs.Tells.{Telling, tells, arms_of, all_tell, tell_arm, forks_of_arm}
use Rattle.counted_circuit.proofs.TellsNumbers.{tells_plain}
use Rattle.counted_circuit.proofs.Fair.{Out, IsInside, IsEven, IsFairArm, all_map}
use Rattle.counted_circuit.proofs.FairSteps.{wider, fair_arm}
use Rattle.counted_circuit.proofs.FairAll.{fair_steps}
use Rattle.counted_circuit.specs.Circuits.{told_run, arms_in}
use Rattle.counted_circuit.specs.Balance.{process_forks}

-- ---- one process

-- among the notes that are n there is no other number
only_none : (n k : ℕ) → (n ≡ k → ⊥) → (ns : List ℕ) → how_many k (filter (λ m. m == n) ns) ≡ 0
only_none n k differ [] = refl
only_none n k differ (x ∷ xs) = elim (eqb_tells x n) as (λ _. how_many k (cond (x == n) (x ∷ filter (λ m. m == n) xs) (filter (λ m. m == n) xs)) ≡ 0) [
  | inl h ↦ ap (λ b. how_many k (cond b (x ∷ filter (λ m. m == n) xs) (filter (λ m. m == n) xs))) h.0
      ∙ of_other k x (filter (λ m. m == n) xs) (λ e. differ (sym h.1 ∙ e)) ∙ only_none n k differ xs
  | inr h ↦ ap (λ b. how_many k (cond b (x ∷ filter (λ m. m == n) xs) (filter (λ m. m == n) xs))) h.0 ∙ only_none n k differ xs
]

-- the notes of a process: its numbers alone, and each `if` even
pub record IsFairProcess (n : ℕ) (k : ProcessKind) (steps : List Step) : Type 0 where
  pub range : (from : State) (j : ℕ) → Out n (n + arms_in k steps) j → how_many j (told_run k steps n from).notes ≡ 0
  pub inside : AllByRecursion (IsInside n (n + arms_in k steps)) (process_forks k steps n)
  pub even : (from : State) → AllByRecursion (IsEven (told_run k steps n from).notes) (process_forks k steps n)

module _ (n : ℕ) (xs : List Telling) (fair : IsFairArm xs) where
  body_range : (from : State) (j : ℕ) → Out n (n + (1 + arms_of xs)) j → how_many j (tell_arm xs n from).notes ≡ 0
  body_range from j out = fair.range n from j (λ x y. out x (omega arith))

  body_inside : AllByRecursion (IsInside n (n + (1 + arms_of xs))) (forks_of_arm xs n)
  body_inside = all_map (IsInside n (n + 1 + arms_of xs)) (IsInside n (n + (1 + arms_of xs)))
      (wider n (n + 1 + arms_of xs) n (n + (1 + arms_of xs)) (omega arith) (omega arith)) (forks_of_arm xs n) (fair.inside n)

module _ {carried : ℕ → List ℕ} where
  pub fair_process : {n m : ℕ} {p q : Process} → IsCountedProcess carried n p q m → IsFairProcess n p.kind p.body
  fair_process (assignment {n} {a} p) = record {
    range = λ from j out.
        let counted : AreCounted carried n (a ∷ []) (a ∷ []) n = plain p no_steps in
        (fair_steps counted).range n from j (λ x y. let e = ap (λ t. t.arms) (tells_plain p) in out x (omega arith));
    inside = tt;
    even = λ from. tt;
  }
  fair_process (cover {n} test) = record {
    range = λ from j out. only_none n j (λ e. out (omega arith) (omega arith)) (all_tell (s.If test [] [] ∷ []) n from).notes;
    inside = tt;
    even = λ from. tt;
  }
  fair_process (comb {n} {m} {body} {body'} c) =
      let f = fair_arm (map tells body) (fair_steps c) in
      record { range = body_range n (map tells body) f; inside = body_inside n (map tells body) f; even = f.even n }
  fair_process (clocked {n} {m} {body} {body'} c) =
      let f = fair_arm (map tells body) (fair_steps c) in
      record { range = body_range n (map tells body) f; inside = body_inside n (map tells body) f; even = f.even n }
  fair_process (initial {n} {m} {body} {body'} c) =
      let f = fair_arm (map tells body) (fair_steps c) in
      record { range = body_range n (map tells body) f; inside = body_inside n (map tells body) f; even = f.even n }
