-- All steps are fair.
use Rattle.std.specs.Prelude.{◌≡◌, refl, ℕ, List, [], map}
use Rattle.std.proofs.Common.{sym, subst}
use Rattle.design_tree.specs.declared.step.StepArm.{StepArm}
use Rattle.design_tree.specs.declared.step.Step.{Step}
use Rattle.design_tree.specs.declared.step.Step.TheVariants as s
use Rattle.circuit_run.specs.States.{State}
use Rattle.circuit_run.specs.Outcomes.{Act}
use Rattle.design_meaning.proofs.StepFolds.{fold-Set, fold-Later, fold-Show, fold-Finish, fold-Stop}
use Rattle.counted_circuit.specs.Inserted.{IsPlain, set, later, show, finish, stop, AreCounted, no_steps, plain, an_if, a_case, ArmsAreCounted, no_arms, an_arm}
use Rattle.counted_circuit.specs.Tells.{Telling, TellingArm, tells, arm_telling, step_tells, arm_tells, without_arms}
use Rattle.counted_circuit.proofs.TellsNumbers.{tells-If, tells-Case, tells-arm}
use Rattle.circuit_run.specs.Lists.{how_many}
use Rattle.counted_circuit.proofs.Fair.{IsFair, IsFairArm}
use Rattle.counted_circuit.proofs.FairSteps.{turn, fair_none, fair_more, fair_arm}
use Rattle.counted_circuit.proofs.FairIf.{fair_if}
use Rattle.counted_circuit.proofs.FairCase.{AreFairArms, fair_choice, fair_case}

fair_without : (act : Act ℕ) → ((from : State) → (act from).notes ≡ []) → IsFair (without_arms act)
fair_without act silent = record {
  range = λ n from k out. subst (λ ns. how_many k ns
      ≡ 0) (sym (silent from)) refl;
  within = λ around n. tt;
  even = λ around n from low. tt;
}

fair_plain : {a : Step} → IsPlain a → IsFair (tells a)
fair_plain (set targets value) = subst IsFair (sym (fold-Set Telling TellingArm step_tells arm_tells targets value)) (fair_without _ (λ from. refl))
fair_plain (later targets value) = subst IsFair (sym (fold-Later Telling TellingArm step_tells arm_tells targets value)) (fair_without _ (λ from. refl))
fair_plain (show pieces) = subst IsFair (sym (fold-Show Telling TellingArm step_tells arm_tells pieces)) (fair_without _ (λ from. refl))
fair_plain finish = subst IsFair (sym (fold-Finish Telling TellingArm step_tells arm_tells)) (fair_without _ (λ from. refl))
fair_plain stop = subst IsFair (sym (fold-Stop Telling TellingArm step_tells arm_tells)) (fair_without _ (λ from. refl))

mutual
  pub fair_steps : {carried : ℕ → List ℕ} {n m : ℕ} {ss ts : List Step} → AreCounted carried n ss ts m → IsFair (turn (map tells ss))
  fair_steps no_steps = fair_none
  fair_steps (plain {n} {m} {a} {ss} {ts} p rest) = fair_more (tells a) (map tells ss) (fair_plain p) (fair_steps rest)
  fair_steps (an_if {n} {m} {k} {j} {left} {left'} {right} {right'} {ss} {ts} test l r rest) =
      fair_more (tells (s.If test left right)) (map tells ss)
      (subst IsFair (sym (tells-If test left right))
      (fair_if test (map tells left) (map tells right) (fair_arm (map tells left) (fair_steps l)) (fair_arm (map tells right) (fair_steps r))))
      (fair_steps rest)
  fair_steps (a_case {n} {m} {k} {j} {arms} {arms'} {rest = block} {rest' = block'} {ss} {ts} on l r more) =
      fair_more (tells (s.Case on arms block)) (map tells ss)
      (subst IsFair (sym (tells-Case on arms block))
      (fair_case on (map arm_telling arms) (map tells block)
      (fair_choice (map arm_telling arms) (map tells block) (fair_arms l) (fair_arm (map tells block) (fair_steps r)))))
      (fair_steps more)

  pub fair_arms : {carried : ℕ → List ℕ} {n m : ℕ} {arms counted : List StepArm} → ArmsAreCounted carried n arms counted m
      → AreFairArms (map arm_telling arms)
  fair_arms no_arms = tt
  fair_arms (an_arm {n} {m} {k} {body} {body'} {arms} {arms'} items b rest) =
      (subst (λ x. IsFairArm x.body) (sym (tells-arm items body)) (fair_arm (map tells body) (fair_steps b)), fair_arms rest)
