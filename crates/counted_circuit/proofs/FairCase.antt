-- A `case` is fair where its arms are.
use Rattle.std.specs.Prelude.{◌≡◌, ℕ, ◌+◌, Bool, true, false, if◌then◌else◌, List, [], ◌∷◌, ◌++◌}
use Rattle.std.specs.List.{AllByRecursion, list_any}
use Rattle.std.proofs.Common.{arith}
use Rattle.design_tree.specs.declared.typed.Typed.{Typed}
use Rattle.design_tree.specs.declared.step.Step.TheOpen as o
use Rattle.circuit_run.specs.States.{State}
use Rattle.circuit_run.specs.Outcomes.{Outcome}
use Rattle.design_meaning.specs.Values.{value_in}
use Rattle.design_meaning.specs.Steps.{is_match}
use Rattle.circuit_run.specs.Lists.{how_many}
use Rattle.counted_circuit.specs.Tells.{Telling, TellingArm, arms_of, arms_of_arms, tell_arm, tell_choice, forks_of_arm, forks_of_arms, step_tells}
use Rattle.counted_circuit.proofs.Fair.{Out, IsInside, IsWithin, deeper, IsEven, IsFair, IsFairArm, all_map, all_joined, all_map_two}
use Rattle.counted_circuit.proofs.FairSteps.{wider}
use Rattle.counted_circuit.proofs.FairIf.{none_inside, one_before}

-- the number after a `case` whose first arm has the number n
abbrev pub after : List TellingArm → List Telling → ℕ → ℕ
after arms rest n = n + (1 + arms_of_arms arms + arms_of rest)

pub record IsFairChoice (arms : List TellingArm) (rest : List Telling) : Type 0 where
  pub range : (n v : ℕ) (from : State) (k : ℕ) → Out n (after arms rest n) k → how_many k (tell_choice from v arms rest n).notes ≡ 0
  pub inside : (n : ℕ) → AllByRecursion (IsInside n (after arms rest n)) (forks_of_arms arms rest n)
  pub even : (n v : ℕ) (from : State) → AllByRecursion (IsEven (tell_choice from v arms rest n).notes) (forks_of_arms arms rest n)

no_match : (rest : List Telling) → IsFairArm rest → IsFairChoice [] rest
no_match rest fair = record {
  range = λ n v from k out. fair.range n from k (λ x y. out x (omega arith));
  inside = λ n. all_map (IsInside n (n + 1 + arms_of rest)) (IsInside n (after [] rest n))
      (wider n (n + 1 + arms_of rest) n (after [] rest n) (omega arith) (omega arith)) (forks_of_arm rest n) (fair.inside n);
  even = λ n v from. fair.even n from;
}

module _ (arm : TellingArm) (arms : List TellingArm) (rest : List Telling) (fa : IsFairArm arm.body) (fs : IsFairChoice arms rest) where
  abbrev next : ℕ → ℕ
  next n = n + 1 + arms_of arm.body

  abbrev taken : Bool → ℕ → ℕ → State → Outcome ℕ
  taken b n v from = if b then tell_arm arm.body n from else tell_choice from v arms rest (next n)

  arm_range : (b : Bool) (n v : ℕ) (from : State) (k : ℕ) → Out n (after (arm ∷ arms) rest n) k → how_many k (taken b n v from).notes ≡ 0
  arm_range true n v from k out = fa.range n from k (λ x y. out x (omega arith))
  arm_range false n v from k out = fs.range (next n) v from k (λ x y. out (omega arith) (omega arith))

  arm_inside : (n : ℕ) → AllByRecursion (IsInside n (after (arm ∷ arms) rest n)) (forks_of_arm arm.body n ++ forks_of_arms arms rest (next n))
  arm_inside n = all_joined (IsInside n (after (arm ∷ arms) rest n)) (forks_of_arm arm.body n) (forks_of_arms arms rest (next n))
      (all_map (IsInside n (next n)) (IsInside n (after (arm ∷ arms) rest n))
      (wider n (next n) n (after (arm ∷ arms) rest n) (omega arith) (omega arith)) (forks_of_arm arm.body n) (fa.inside n))
      (all_map (IsInside (next n) (after arms rest (next n))) (IsInside n (after (arm ∷ arms) rest n))
      (wider (next n) (after arms rest (next n)) n (after (arm ∷ arms) rest n) (omega arith) (omega arith)) (forks_of_arms arms rest (next n))
      (fs.inside (next n)))

  arm_even : (b : Bool) (n v : ℕ) (from : State)
      → AllByRecursion (IsEven (taken b n v from).notes) (forks_of_arm arm.body n ++ forks_of_arms arms rest (next n))
  arm_even true n v from = all_joined (IsEven (tell_arm arm.body n from).notes) (forks_of_arm arm.body n) (forks_of_arms arms rest (next n))
      (fa.even n from)
      (all_map (IsInside (next n) (after arms rest (next n))) (IsEven (tell_arm arm.body n from).notes)
      (none_inside (next n) (after arms rest (next n)) (tell_arm arm.body n from).notes (λ k a b. fa.range n from k (λ x y. omega arith)))
      (forks_of_arms arms rest (next n)) (fs.inside (next n)))
  arm_even false n v from =
      let ns = (tell_choice from v arms rest (next n)).notes in
      all_joined (IsEven ns) (forks_of_arm arm.body n) (forks_of_arms arms rest (next n))
      (all_map (IsInside n (next n)) (IsEven ns)
      (none_inside n (next n) ns (λ k a b. fs.range (next n) v from k (λ x y. omega arith))) (forks_of_arm arm.body n) (fa.inside n))
      (fs.even (next n) v from)

  one_arm_more : IsFairChoice (arm ∷ arms) rest
  one_arm_more = record {
    range = λ n v from k out. arm_range (list_any (is_match from v) arm.items) n v from k out;
    inside = arm_inside;
    even = λ n v from. arm_even (list_any (is_match from v) arm.items) n v from;
  }

abbrev pub AreFairArms : List TellingArm → Type 0
AreFairArms = AllByRecursion (λ arm. IsFairArm arm.body)

pub fair_choice : (arms : List TellingArm) (rest : List Telling) → AreFairArms arms → IsFairArm rest → IsFairChoice arms rest
fair_choice [] rest fs fair = no_match rest fair
fair_choice (arm ∷ arms) rest fs fair = one_arm_more arm arms rest fs.0 (fair_choice arms rest fs.1 fair)

pub fair_case : (on : Typed) (arms : List TellingArm) (rest : List Telling) → IsFairChoice arms rest → IsFair (step_tells (o.Case on arms rest))
fair_case on arms rest fair = record {
  range = λ n from k out. fair.range n (value_in from on).number from k out;
  within = λ around n. all_map (IsInside n (after arms rest n)) (IsWithin around n (after arms rest n)) (λ f i. deeper i) (forks_of_arms arms rest n)
      (fair.inside n);
  even = λ around n from low. all_map_two (IsInside n (after arms rest n)) (IsEven (tell_choice from (value_in from on).number arms rest n).notes)
      (IsEven (around ∷ (tell_choice from (value_in from on).number arms rest n).notes))
      (one_before around n (after arms rest n) low (tell_choice from (value_in from on).number arms rest n).notes) (forks_of_arms arms rest n) (fair.inside n)
      (fair.even n (value_in from on).number from);
}
