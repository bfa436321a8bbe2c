-- The numbers of arms, as they are handed on.
use Rattle.std.specs.Prelude.{◌≡◌, ℕ, ◌+◌, List, map}
use Rattle.std.proofs.Common.{sym, ◌∙◌, ap, arith}
use Rattle.design_tree.specs.declared.typed.Typed.{Typed}
use Rattle.design_tree.specs.declared.step.StepItem.{StepItem}
use Rattle.design_tree.specs.declared.step.StepArm.{StepArm}
use Rattle.design_tree.specs.declared.step.Step.{Step}
use Rattle.design_tree.specs.declared.step.Step.TheVariants as s
use Rattle.design_tree.specs.declared.step.Step.TheOpen as o
use Rattle.circuit_run.specs.Outcomes.{Act}
use Rattle.design_meaning.specs.Steps.{ArmAct, step_arm, does, step_does, arm_does, arm_acts}
use Rattle.design_meaning.proofs.StepFolds.{fold-Set, fold-Later, fold-If, fold-Case, fold-Show, fold-Finish, fold-Stop, fold-Count, fold-arm}
use Rattle.counted_circuit.specs.Inserted.{IsPlain, set, later, show, finish, stop, AreCounted, no_steps, plain, an_if, a_case, ArmsAreCounted, no_arms, an_arm}
use Rattle.counted_circuit.specs.Tells.{Telling, TellingArm, tells, step_tells, arm_tells, arm_telling, arms_of, arms_of_arms, without_arms}

-- ---- one equation a step

pub tells-If : (test : Typed) (left right : List Step) → tells (s.If test left right) ≡ step_tells (o.If test (map tells left) (map tells right))
tells-If test left right = fold-If Telling TellingArm step_tells arm_tells test left right

pub tells-Case : (on : Typed) (arms : List StepArm) (rest : List Step)
    → tells (s.Case on arms rest) ≡ step_tells (o.Case on (map arm_telling arms) (map tells rest))
tells-Case on arms rest = fold-Case Telling TellingArm step_tells arm_tells on arms rest

pub tells-arm : (items : List StepItem) (body : List Step) → arm_telling (step_arm items body) ≡ record { items = items; body = map tells body }
tells-arm items body = fold-arm Telling TellingArm step_tells arm_tells items body

pub does-If : (test : Typed) (left right : List Step) → does (s.If test left right) ≡ step_does (o.If test (map does left) (map does right))
does-If test left right = fold-If (Act ℕ) ArmAct step_does arm_does test left right

pub does-Case : (on : Typed) (arms : List StepArm) (rest : List Step) → does (s.Case on arms rest) ≡ step_does (o.Case on (map arm_acts arms) (map does rest))
does-Case on arms rest = fold-Case (Act ℕ) ArmAct step_does arm_does on arms rest

pub does-arm : (items : List StepItem) (body : List Step) → arm_acts (step_arm items body) ≡ record { items = items; body = map does body }
does-arm items body = fold-arm (Act ℕ) ArmAct step_does arm_does items body

pub does-Count : (counter : ℕ) → does (s.Count counter) ≡ step_does (o.Count counter)
does-Count counter = fold-Count (Act ℕ) ArmAct step_does arm_does counter

-- a step without arms tells none and does what it does
pub tells_plain : {a : Step} → IsPlain a → tells a ≡ without_arms (does a)
tells_plain (set targets value) = fold-Set Telling TellingArm step_tells arm_tells targets value
    ∙ ap without_arms (sym (fold-Set (Act ℕ) ArmAct step_does arm_does targets value))
tells_plain (later targets value) = fold-Later Telling TellingArm step_tells arm_tells targets value
    ∙ ap without_arms (sym (fold-Later (Act ℕ) ArmAct step_does arm_does targets value))
tells_plain (show pieces) = fold-Show Telling TellingArm step_tells arm_tells pieces
    ∙ ap without_arms (sym (fold-Show (Act ℕ) ArmAct step_does arm_does pieces))
tells_plain finish = fold-Finish Telling TellingArm step_tells arm_tells ∙ ap without_arms (sym (fold-Finish (Act ℕ) ArmAct step_does arm_does))
tells_plain stop = fold-Stop Telling TellingArm step_tells arm_tells ∙ ap without_arms (sym (fold-Stop (Act ℕ) ArmAct step_does arm_does))

-- ---- sums

sum_plain : (n j a rest : ℕ) → a ≡ 0 → j ≡ n + rest → j ≡ n + (a + rest)
sum_plain n j a rest e f = omega arith

sum_if : (n m k j a left right rest : ℕ) → a ≡ 2 + left + right → m ≡ n + 1 + left → k ≡ m + 1 + right → j ≡ k + rest → j ≡ n + (a + rest)
sum_if n m k j a left right rest e f g h = omega arith

sum_case : (n m k j a arms right rest : ℕ) → a ≡ 1 + arms + right → m ≡ n + arms → k ≡ m + 1 + right → j ≡ k + rest → j ≡ n + (a + rest)
sum_case n m k j a arms right rest e f g h = omega arith

sum_arm : (n m k body rest : ℕ) → m ≡ n + 1 + body → k ≡ m + rest → k ≡ n + (1 + body + rest)
sum_arm n m k body rest e f = omega arith

-- ---- the number after some steps

mutual
  pub number_after : {carried : ℕ → List ℕ} {n m : ℕ} {ss ts : List Step} → AreCounted carried n ss ts m → m ≡ n + arms_of (map tells ss)
  number_after (no_steps {n}) = omega arith
  number_after (plain {n} {m} {a} {ss} {ts} p c) =
      sum_plain n m (tells a).arms (arms_of (map tells ss)) (ap (λ x. x.arms) (tells_plain p)) (number_after c)
  number_after (an_if {n} {m} {k} {j} {left} {left'} {right} {right'} {ss} {ts} test l r c) =
      sum_if n m k j (tells (s.If test left right)).arms (arms_of (map tells left)) (arms_of (map tells right)) (arms_of (map tells ss))
      (ap (λ x. x.arms) (tells-If test left right)) (number_after l) (number_after r) (number_after c)
  number_after (a_case {n} {m} {k} {j} {arms} {arms'} {rest} {rest'} {ss} {ts} on l r c) =
      sum_case n m k j (tells (s.Case on arms rest)).arms (arms_of_arms (map arm_telling arms)) (arms_of (map tells rest)) (arms_of (map tells ss))
      (ap (λ x. x.arms) (tells-Case on arms rest)) (number_after_arms l) (number_after r) (number_after c)

  pub number_after_arms : {carried : ℕ → List ℕ} {n m : ℕ} {arms counted : List StepArm} → ArmsAreCounted carried n arms counted m
      → m ≡ n + arms_of_arms (map arm_telling arms)
  number_after_arms (no_arms {n}) = omega arith
  number_after_arms (an_arm {n} {m} {k} {body} {body'} {arms} {arms'} items b c) =
      sum_arm n m k (arms_of (map tells body)) (arms_of_arms (map arm_telling arms)) (number_after b) (number_after_arms c)
      ∙ ap (λ x. n + (1 + arms_of x.body + arms_of_arms (map arm_telling arms))) (sym (tells-arm items body))
