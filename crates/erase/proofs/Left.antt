-- What is left of an `if`, of a `case` and of its arms.
use Rattle.std.proofs.Common.{◌≡◌, ℕ, List, [], ◌∷◌, ◌++◌, map, refl, sym, ◌∙◌, ap, ap₂}
use Rattle.std.specs.Prelude.{flat_map}
use Rattle.design_tree.specs.declared.typed.Typed.{Typed}
use Rattle.design_tree.specs.declared.step.StepItem.{StepItem}
use Rattle.design_tree.specs.declared.step.StepArm.{StepArm}
use Rattle.design_tree.specs.declared.step.Step.{Step}
use Rattle.design_tree.specs.declared.step.Step.TheVariants as s
use Rattle.design_meaning.specs.Steps.{step_arm}
use Rattle.design_meaning.proofs.StepFolds as steps
use Rattle.counted_circuit.specs.Erased.{erased_step, erased_arm, erased}
use Rattle.erase.specs.Arms.{arm_without_counts}

-- lists made one by one and then joined
joined_map : {A B : Type 0} (f : A → List B) (xs : List A) → flat_map (λ ys. ys) (map f xs) ≡ flat_map f xs
joined_map f [] = refl
joined_map f (x ∷ xs) = ap (λ zs. f x ++ zs) (joined_map f xs)

-- the block of a step
block_left : (ss left : List Step) → left ≡ flat_map erased ss → flat_map (λ ys. ys) (map erased ss) ≡ left
block_left ss left is = joined_map erased ss ∙ sym is

pub if_left : (one : Step) (test test' : Typed) (left left' right right' : List Step)
    → one ≡ s.If test left right → test' ≡ test → left' ≡ flat_map erased left → right' ≡ flat_map erased right → erased one ≡ s.If test' left' right' ∷ []
if_left one test test' left left' right right' is e f g =
    ap erased is ∙ (steps.fold-If (List Step) StepArm erased_step erased_arm test left right
    ∙ (ap₂ (λ (y n : List Step). s.If test y n ∷ []) (block_left left left' f) (block_left right right' g)
    ∙ ap (λ (t : Typed). s.If t left' right' ∷ []) (sym e)))

pub case_left : (one : Step) (on on' : Typed) (arms arms' : List StepArm) (rest rest' : List Step)
    → one ≡ s.Case on arms rest → on' ≡ on → arms' ≡ map arm_without_counts arms → rest' ≡ flat_map erased rest
    → erased one ≡ s.Case on' arms' rest' ∷ []
case_left one on on' arms arms' rest rest' is e f g =
    ap erased is ∙ (steps.fold-Case (List Step) StepArm erased_step erased_arm on arms rest
    ∙ (ap₂ (λ (a : List StepArm) (r : List Step). s.Case on a r ∷ []) (sym f) (block_left rest rest' g)
    ∙ ap (λ (t : Typed). s.Case t arms' rest' ∷ []) (sym e)))

pub arm_left : (items items' : List StepItem) (body body' : List Step) → items' ≡ items → body' ≡ flat_map erased body
    → step_arm items' body' ≡ arm_without_counts (step_arm items body)
arm_left items items' body body' e f =
    sym (steps.fold-arm (List Step) StepArm erased_step erased_arm items body
    ∙ (ap (step_arm items) (block_left body body' f) ∙ ap (λ (i : List StepItem). step_arm i body') (sym e)))
