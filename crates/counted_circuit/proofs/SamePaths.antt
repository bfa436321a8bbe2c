-- Counts leave the paths of steps as they are, and with them what is read, driven and surely written.
use Rattle.std.specs.Prelude.{◌≡◌, refl, ℕ, List, [], ◌∷◌, ◌++◌, map, flat_map}
use Rattle.std.specs.List.{list_any}
use Rattle.std.proofs.Common.{sym, ◌∙◌, ap, ap₂}
use Rattle.std.proofs.lemmas.List.{append-nil}
use Rattle.design_tree.specs.declared.typed.Typed.{Typed}
use Rattle.design_tree.specs.declared.step.StepItem.{StepItem}
use Rattle.design_tree.specs.declared.step.StepArm.{StepArm, fold-StepArm}
use Rattle.design_tree.specs.declared.step.Step.{Step}
use Rattle.design_tree.specs.declared.design.Process.{Process}
use Rattle.design_meaning.specs.Spans.{reads_of}
use Rattle.design_meaning.specs.Paths.{Path, reads, item_reads, ArmPaths, step_paths, arm_paths, paths_of_step, paths}
use Rattle.design_meaning.specs.Reach.{event_drives, drives_of}
use Rattle.design_meaning.proofs.StepFolds as steps
use Rattle.counted_circuit.specs.Inserted.{counts, AreCounted, no_steps, plain, an_if, a_case, ArmsAreCounted, no_arms, an_arm, IsCountedProcess, assignment}
use Rattle.counted_circuit.specs.Inserted.{cover, comb, clocked, initial}

-- a path of the one, and then one of the others
abbrev before : List Path → List Path → List Path
before ways more = flat_map (λ front. map (λ rest. front ++ rest) more) ways

same_map : (ps : List Path) → map (λ path. path) ps ≡ ps
same_map [] = refl
same_map (p ∷ ps) = ap (λ qs. p ∷ qs) (same_map ps)

abbrev paths_of_arm : StepArm → ArmPaths
paths_of_arm = fold-StepArm (List Path) ArmPaths step_paths arm_paths

-- counts before steps
pub counts_first : (counters : List ℕ) (ss : List Step) → paths (counts counters ++ ss) ≡ paths ss
counts_first [] ss = refl
counts_first (c ∷ cs) ss =
    ap (λ ways. before ways (paths (counts cs ++ ss))) (steps.fold-Count (List Path) ArmPaths step_paths arm_paths c)
    ∙ append-nil (map (λ path. path) (paths (counts cs ++ ss)))
    ∙ same_map (paths (counts cs ++ ss))
    ∙ counts_first cs ss

-- the paths of an `if`, and of a `case`
abbrev if_paths : Typed → List Path → List Path → List Path
if_paths test left right = map (λ path. reads (reads_of test) ∷ path) (left ++ right)

abbrev case_paths : Typed → List ArmPaths → List Path → List Path
case_paths on arms rest =
    map (λ path. reads (reads_of on ++ flat_map (λ arm. arm.items) arms) ∷ path) (flat_map (λ arm. arm.body) arms ++ rest)

abbrev an_arm_with : List StepItem → List Path → ArmPaths
an_arm_with items body = record { items = flat_map item_reads items; body = body }

module _ {carried : ℕ → List ℕ} where
  mutual
    pub same_paths : {n m : ℕ} {ss ts : List Step} → AreCounted carried n ss ts m → paths ts ≡ paths ss
    same_paths no_steps = refl
    same_paths (plain {n} {m} {a} {ss} {ts} p c) = ap (before (paths_of_step a)) (same_paths c)
    same_paths (an_if {n} {m} {k} {j} {left} {left'} {right} {right'} {ss} {ts} test l r c) =
        ap₂ before
        (steps.fold-If (List Path) ArmPaths step_paths arm_paths test (counts (carried n) ++ left') (counts (carried m) ++ right')
        ∙ ap₂ (if_paths test) (counts_first (carried n) left' ∙ same_paths l) (counts_first (carried m) right' ∙ same_paths r)
        ∙ sym (steps.fold-If (List Path) ArmPaths step_paths arm_paths test left right))
        (same_paths c)
    same_paths (a_case {n} {m} {k} {j} {arms} {arms'} {rest} {rest'} {ss} {ts} on a r c) =
        ap₂ before
        (steps.fold-Case (List Path) ArmPaths step_paths arm_paths on arms' (counts (carried m) ++ rest')
        ∙ ap₂ (case_paths on) (same_arms a) (counts_first (carried m) rest' ∙ same_paths r)
        ∙ sym (steps.fold-Case (List Path) ArmPaths step_paths arm_paths on arms rest))
        (same_paths c)

    same_arms : {n m : ℕ} {arms arms' : List StepArm} → ArmsAreCounted carried n arms arms' m → map paths_of_arm arms' ≡ map paths_of_arm arms
    same_arms no_arms = refl
    same_arms (an_arm {n} {m} {k} {body} {body'} {arms} {arms'} items c cs) =
        ap₂ (λ x xs. x ∷ xs)
        (steps.fold-arm (List Path) ArmPaths step_paths arm_paths items (counts (carried n) ++ body')
        ∙ ap (an_arm_with items) (counts_first (carried n) body' ∙ same_paths c)
        ∙ sym (steps.fold-arm (List Path) ArmPaths step_paths arm_paths items body))
        (same_arms cs)

  -- a process with counts has the paths of the process
  pub process_paths : {n m : ℕ} {p q : Process} → IsCountedProcess carried n p q m → paths q.body ≡ paths p.body
  process_paths (assignment a) = refl
  process_paths (cover {n} test) =
      ap (λ ways. before ways (paths []))
      (steps.fold-If (List Path) ArmPaths step_paths arm_paths test (counts (carried n)) []
      ∙ ap (λ left. if_paths test left (paths [])) (ap paths (sym (append-nil (counts (carried n)))) ∙ counts_first (carried n) [])
      ∙ sym (steps.fold-If (List Path) ArmPaths step_paths arm_paths test [] []))
  process_paths (comb {n} {m} {body} {body'} c) = counts_first (carried n) body' ∙ same_paths c
  process_paths (clocked {n} {m} {body} {body'} c) = counts_first (carried n) body' ∙ same_paths c
  process_paths (initial {n} {m} {body} {body'} c) = counts_first (carried n) body' ∙ same_paths c

  -- and drives the same bits
  pub drives_alike : {n m : ℕ} {p q : Process} → IsCountedProcess carried n p q m → drives_of q.body ≡ drives_of p.body
  drives_alike c = ap (λ ways b. list_any (list_any (event_drives b)) ways) (process_paths c)
