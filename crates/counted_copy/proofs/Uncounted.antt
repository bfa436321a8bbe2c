-- The parts of steps without counts have none, and their arms are among those of the whole.
use Rattle.std.proofs.Common.{◌≡◌, ℕ, ◌+◌, ◌<◌, ◌≤◌, zero, suc, Bool, true, false, ◌&&◌, List, [], ◌∷◌, map, length, take, get_or, refl, sym, ◌∙◌, ap, arith}
use Rattle.std.specs.List.{list_all}
use Rattle.std.proofs.lemmas.List.Folds.{list_all_at}
use Rattle.design_tree.specs.declared.typed.Typed.{Typed}
use Rattle.design_tree.specs.declared.step.StepArm.{StepArm}
use Rattle.design_tree.specs.declared.step.Step.{Step}
use Rattle.design_tree.specs.declared.step.Step.TheVariants as s
use Rattle.design_meaning.proofs.StepFolds as steps
use Rattle.design_meaning.proofs.ListLaws.{left_true, right_true, all_map}
use Rattle.circuit_run.specs.Lists.{total}
use Rattle.counted_circuit.specs.Tells.{tells, arm_telling, arms_of, arms_of_arms}
use Rattle.counted_circuit.proofs.TellsNumbers.{tells-If, tells-Case}
use Rattle.counted_copy.specs.Blocks.{step_is_uncounted, arm_is_uncounted, is_uncounted, is_uncounted_arm}

-- ---- one of a list

-- what holds of all holds of the one at a place
pub one_of : {X : Type 0} (f : X → Bool) (xs : List X) (i : ℕ) (x : X) → i < length xs → x ≡ get_or xs i x → list_all f xs ≡ true → f x ≡ true
one_of f xs i x lt is h = ap f is ∙ at (f (get_or xs i x)) refl
  where
    at : (b : Bool) → f (get_or xs i x) ≡ b → b ≡ true
    at true e = refl
    at false e = sym (list_all_at f xs i x lt e) ∙ h

-- the sum up to a place and the number at it are within the whole sum
pub sum_at : {X : Type 0} (f : X → ℕ) (xs : List X) (i : ℕ) (x : X) → i < length xs → x ≡ get_or xs i x
    → total (map f (take i xs)) + f x ≤ total (map f xs)
sum_at f [] i x lt is = absurd (omega arith)
sum_at f (y ∷ ys) zero x lt is = let e = ap f is in omega arith
sum_at f (y ∷ ys) (suc i) x lt is = let h = sum_at f ys i x (omega arith) is in omega arith

-- ---- an `if` and a `case`

pub yes_uncounted : (a : Step) (test : Typed) (left right : List Step) → a ≡ s.If test left right → is_uncounted a ≡ true → list_all is_uncounted left ≡ true
yes_uncounted a test left right is h =
    sym (all_map (λ b. b) is_uncounted left)
    ∙ left_true (list_all (λ b. b) (map is_uncounted left)) (list_all (λ b. b) (map is_uncounted right))
    (sym (ap is_uncounted is ∙ steps.fold-If Bool Bool step_is_uncounted arm_is_uncounted test left right) ∙ h)

pub no_uncounted : (a : Step) (test : Typed) (left right : List Step) → a ≡ s.If test left right → is_uncounted a ≡ true → list_all is_uncounted right ≡ true
no_uncounted a test left right is h =
    sym (all_map (λ b. b) is_uncounted right)
    ∙ right_true (list_all (λ b. b) (map is_uncounted left)) (list_all (λ b. b) (map is_uncounted right))
    (sym (ap is_uncounted is ∙ steps.fold-If Bool Bool step_is_uncounted arm_is_uncounted test left right) ∙ h)

pub arms_uncounted : (a : Step) (on : Typed) (arms : List StepArm) (rest : List Step) → a ≡ s.Case on arms rest → is_uncounted a ≡ true
    → list_all is_uncounted_arm arms ≡ true
arms_uncounted a on arms rest is h =
    sym (all_map (λ b. b) is_uncounted_arm arms)
    ∙ left_true (list_all (λ b. b) (map is_uncounted_arm arms)) (list_all (λ b. b) (map is_uncounted rest))
    (sym (ap is_uncounted is ∙ steps.fold-Case Bool Bool step_is_uncounted arm_is_uncounted on arms rest) ∙ h)

pub rest_uncounted : (a : Step) (on : Typed) (arms : List StepArm) (rest : List Step) → a ≡ s.Case on arms rest → is_uncounted a ≡ true
    → list_all is_uncounted rest ≡ true
rest_uncounted a on arms rest is h =
    sym (all_map (λ b. b) is_uncounted rest)
    ∙ right_true (list_all (λ b. b) (map is_uncounted_arm arms)) (list_all (λ b. b) (map is_uncounted rest))
    (sym (ap is_uncounted is ∙ steps.fold-Case Bool Bool step_is_uncounted arm_is_uncounted on arms rest) ∙ h)

pub body_uncounted : (arm : StepArm) → is_uncounted_arm arm ≡ true → list_all is_uncounted arm.body ≡ true
body_uncounted arm h = sym (all_map (λ b. b) is_uncounted arm.body) ∙ (sym (steps.fold-arm Bool Bool step_is_uncounted arm_is_uncounted arm.items arm.body) ∙ h)

pub count_refuted : (a : Step) (counter : ℕ) → a ≡ s.Count counter → is_uncounted a ≡ true → ⊥
count_refuted a counter is h =
    let e : false ≡ true = sym (ap is_uncounted is ∙ steps.fold-Count Bool Bool step_is_uncounted arm_is_uncounted counter) ∙ h in cc

-- ---- how many arms

pub arms_of_if : (a : Step) (test : Typed) (left right : List Step) → a ≡ s.If test left right
    → (tells a).arms ≡ 2 + arms_of (map tells left) + arms_of (map tells right)
arms_of_if a test left right is = ap (λ x. (tells x).arms) is ∙ ap (λ x. x.arms) (tells-If test left right)

pub arms_of_case : (a : Step) (on : Typed) (arms : List StepArm) (rest : List Step) → a ≡ s.Case on arms rest
    → (tells a).arms ≡ 1 + arms_of_arms (map arm_telling arms) + arms_of (map tells rest)
arms_of_case a on arms rest is = ap (λ x. (tells x).arms) is ∙ ap (λ x. x.arms) (tells-Case on arms rest)

-- the same as sums over the steps, and over the arms
pub as_total : (xs : List Step) → arms_of (map tells xs) ≡ total (map (λ y. (tells y).arms) xs)
as_total [] = refl
as_total (x ∷ xs) = ap (λ n. (tells x).arms + n) (as_total xs)

pub arms_as_total : (xs : List StepArm) → arms_of_arms (map arm_telling xs) ≡ total (map (λ y. 1 + arms_of (arm_telling y).body) xs)
arms_as_total [] = refl
arms_as_total (x ∷ xs) = ap (λ n. 1 + arms_of (arm_telling x).body + n) (arms_as_total xs)
