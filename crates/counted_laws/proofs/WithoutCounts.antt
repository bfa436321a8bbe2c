-- Erasing counts gives the design back: the proof.
use Rattle.std.proofs.Common.{◌≡◌, ℕ, List, [], ◌∷◌, ◌++◌, map, refl, sym, ◌∙◌, ap, ap₂}
use Rattle.std.specs.Prelude.{flat_map}
use Rattle.design_tree.specs.declared.typed.Typed.{Typed}
use Rattle.design_tree.specs.declared.step.StepItem.{StepItem}
use Rattle.design_tree.specs.declared.step.StepArm.{StepArm, fold-StepArm}
use Rattle.design_tree.specs.declared.step.Step.{Step}
use Rattle.design_tree.specs.declared.step.Step.TheVariants as s
use Rattle.design_tree.specs.declared.design.Input.{Input}
use Rattle.design_tree.specs.declared.design.Process.{Process}
use Rattle.design_tree.specs.declared.design.Design.{Design}
use Rattle.cov_types.specs.declared.kind.ProcessKind.{ProcessKind}
use Rattle.cov_types.specs.declared.kind.ProcessKind.TheVariants as kind
use Rattle.cov_types.specs.declared.var.Var.{Var}
use Rattle.design_meaning.specs.Steps.{step_arm}
use Rattle.design_meaning.proofs.StepFolds as steps
use Rattle.counted_circuit.specs.Inserted.{counts, IsPlain, set, later, show, finish, stop, AreCounted, no_steps, plain, an_if, a_case, ArmsAreCounted, no_arms}
use Rattle.counted_circuit.specs.Inserted.{an_arm, IsCountedProcess, assignment, cover, comb, clocked, initial, AreCountedProcesses, no_processes, more}
use Rattle.counted_circuit.specs.Erased.{joined, erased_step, erased_arm, erased, erased_process}
use Rattle.counted_laws.specs.ErasedLaw.{ErasingGivesBack}

-- what is left of steps, and of an arm of a `case`
abbrev left_of : List Step → List Step
left_of ss = flat_map erased ss

abbrev arm_left : StepArm → StepArm
arm_left = fold-StepArm (List Step) StepArm erased_step erased_arm

joined_is : (ss : List Step) → joined (map erased ss) ≡ left_of ss
joined_is [] = refl
joined_is (a ∷ ss) = ap (λ (xs : List Step). erased a ++ xs) (joined_is ss)

counts_left : (cs : List ℕ) (ss : List Step) → left_of (counts cs ++ ss) ≡ left_of ss
counts_left [] ss = refl
counts_left (c ∷ cs) ss =
    ap (λ (xs : List Step). xs ++ left_of (counts cs ++ ss)) (steps.fold-Count (List Step) StepArm erased_step erased_arm c) ∙ counts_left cs ss

plain_left : {a : Step} → IsPlain a → erased a ≡ a ∷ []
plain_left (set targets value) = steps.fold-Set (List Step) StepArm erased_step erased_arm targets value
plain_left (later targets value) = steps.fold-Later (List Step) StepArm erased_step erased_arm targets value
plain_left (show pieces) = steps.fold-Show (List Step) StepArm erased_step erased_arm pieces
plain_left finish = steps.fold-Finish (List Step) StepArm erased_step erased_arm
plain_left stop = steps.fold-Stop (List Step) StepArm erased_step erased_arm

-- the block of an arm
block_left : (cs : List ℕ) (ss ts : List Step) → left_of ts ≡ ss → joined (map erased (counts cs ++ ts)) ≡ ss
block_left cs ss ts is = joined_is (counts cs ++ ts) ∙ (counts_left cs ts ∙ is)

only_counts : (cs : List ℕ) → joined (map erased (counts cs)) ≡ []
only_counts [] = refl
only_counts (c ∷ cs) =
    ap (λ (xs : List Step). xs ++ joined (map erased (counts cs))) (steps.fold-Count (List Step) StepArm erased_step erased_arm c) ∙ only_counts cs

abbrev make : ProcessKind → List Step → Process
make k body = record { kind = k; body = body }

module _ {carried : ℕ → List ℕ} where
  mutual
    steps_left : {n m : ℕ} {ss ts : List Step} → AreCounted carried n ss ts m → left_of ts ≡ ss
    steps_left no_steps = refl
    steps_left (plain p c) = ap₂ (λ (xs ys : List Step). xs ++ ys) (plain_left p) (steps_left c)
    steps_left (an_if {n} {m} {k} {j} {left} {left'} {right} {right'} {ss} {ts} test l r c) =
        ap₂ (λ (xs ys : List Step). xs ++ ys)
        (steps.fold-If (List Step) StepArm erased_step erased_arm test (counts (carried n) ++ left') (counts (carried m) ++ right')
        ∙ ap₂ (λ (xs ys : List Step). s.If test xs ys ∷ []) (block_left (carried n) left left' (steps_left l))
        (block_left (carried m) right right' (steps_left r)))
        (steps_left c)
    steps_left (a_case {n} {m} {k} {j} {arms} {arms'} {rest} {rest'} {ss} {ts} on a r c) =
        ap₂ (λ (xs ys : List Step). xs ++ ys)
        (steps.fold-Case (List Step) StepArm erased_step erased_arm on arms' (counts (carried m) ++ rest')
        ∙ ap₂ (λ (xs : List StepArm) (ys : List Step). s.Case on xs ys ∷ []) (arms_left a) (block_left (carried m) rest rest' (steps_left r)))
        (steps_left c)

    arms_left : {n m : ℕ} {arms arms' : List StepArm} → ArmsAreCounted carried n arms arms' m → map arm_left arms' ≡ arms
    arms_left no_arms = refl
    arms_left (an_arm {n} {m} {k} {body} {body'} {arms} {arms'} items c cs) =
        ap₂ (λ (x : StepArm) (xs : List StepArm). x ∷ xs)
        (steps.fold-arm (List Step) StepArm erased_step erased_arm items (counts (carried n) ++ body')
        ∙ ap (step_arm items) (block_left (carried n) body body' (steps_left c)))
        (arms_left cs)

  process_left : {n m : ℕ} {p q : Process} → IsCountedProcess carried n p q m → erased_process q ≡ p
  process_left (assignment p) = ap (λ (xs : List Step). make kind.Assign (xs ++ [])) (plain_left p)
  process_left (cover {n} test) =
      ap (λ (xs : List Step). make kind.Cover (xs ++ []))
      (steps.fold-If (List Step) StepArm erased_step erased_arm test (counts (carried n)) []
      ∙ ap (λ (xs : List Step). s.If test xs [] ∷ []) (only_counts (carried n)))
  process_left (comb {n} {m} {body} {body'} c) = ap (make kind.Comb) (counts_left (carried n) body' ∙ steps_left c)
  process_left (clocked {n} {m} {body} {body'} c) = ap (make kind.Clocked) (counts_left (carried n) body' ∙ steps_left c)
  process_left (initial {n} {m} {body} {body'} c) = ap (make kind.Initial) (counts_left (carried n) body' ∙ steps_left c)

  processes_left : {n m : ℕ} {ps qs : List Process} → AreCountedProcesses carried n ps qs m → map erased_process qs ≡ ps
  processes_left no_processes = refl
  processes_left (more c cs) = ap₂ (λ (x : Process) (xs : List Process). x ∷ xs) (process_left c) (processes_left cs)

pub erasing_gives_back : ErasingGivesBack
erasing_gives_back carried d e arms is =
    ap₂ (λ (a : List Var × List Input) (b : List ℕ × List Process). record { vars = a.0; inputs = a.1; outputs = b.0; processes = b.1 })
    (ap₂ (λ (x : List Var) (y : List Input). (x, y)) is.vars is.inputs)
    (ap₂ (λ (x : List ℕ) (y : List Process). (x, y)) is.outputs (processes_left is.processes))
