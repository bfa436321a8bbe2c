-- An `if` is fair where its arms are, and so is a `case`.
use Rattle.std.specs.Prelude.{◌≡◌, refl, ℕ, ◌+◌, ◌≤◌, ◌<◌, ◌==◌, Bool, true, false, if◌then◌else◌, List, ◌∷◌, ◌++◌}
use Rattle.std.specs.List.{AllByRecursion}
use Rattle.std.proofs.Common.{◌∙◌, ap, arith}
use Rattle.design_tree.specs.declared.typed.Typed.{Typed}
use Rattle.design_tree.specs.declared.step.Step.TheOpen as o
use Rattle.circuit_run.specs.States.{State}
use Rattle.circuit_run.specs.Outcomes.{Outcome}
use Rattle.design_meaning.specs.Values.{value_in}
use Rattle.circuit_run.specs.Lists.{how_many}
use Rattle.counted_circuit.proofs.HowMany.{of_same, of_other}
use Rattle.counted_circuit.specs.Tells.{Fork, Telling, arms_of, tell_arm, forks_of_arm, step_tells}
use Rattle.counted_circuit.proofs.Fair.{Out, IsInside, IsWithin, directly, deeper, IsEven, IsFair, IsFairArm, all_map, all_joined, all_map_two, even_one_more}
use Rattle.counted_circuit.proofs.Fair.{even_without}
use Rattle.counted_circuit.proofs.FairSteps.{wider, out_before}

head_even : (a b c : ℕ) → a ≡ 1 → b ≡ 1 → c ≡ 0 → a ≡ b + c
head_even a b c e f g = omega arith

head_even_last : (a b c : ℕ) → a ≡ 1 → b ≡ 0 → c ≡ 1 → a ≡ b + c
head_even_last a b c e f g = omega arith

-- an `if` that lies in a range, where the notes have none of this range
pub none_inside : (n m : ℕ) (ns : List ℕ) → ((k : ℕ) → n ≤ k → k < m → how_many k ns ≡ 0) → (f : Fork) → IsInside n m f → IsEven ns f
none_inside n m ns none f i = even_without ns f
    (none f.around i.around_from i.around_to) (none f.yes_arm i.yes_from i.yes_to) (none f.no_arm i.no_from i.no_to)

-- one note before the range
pub one_before : (around n m : ℕ) → around < n → (ns : List ℕ) (f : Fork) → IsInside n m f → IsEven ns f → IsEven (around ∷ ns) f
one_before around n m low ns f i e =
    let h1 = i.around_from in let h2 = i.yes_from in let h3 = i.no_from in
    even_one_more around ns f e (λ h. omega arith) (λ h. omega arith) (λ h. omega arith)

module _ (test : Typed) (l r : List Telling) (fl : IsFairArm l) (fr : IsFairArm r) where
  abbrev no_arm : ℕ → ℕ
  no_arm n = n + 1 + arms_of l

  abbrev top : ℕ → ℕ
  top n = n + (2 + arms_of l + arms_of r)

  abbrev branch : Bool → ℕ → State → Outcome ℕ
  branch b n from = if b then tell_arm r (no_arm n) from else tell_arm l n from

  abbrev head : ℕ → ℕ → Fork
  head around n = record { around = around; yes_arm = n; no_arm = no_arm n }

  if_range : (b : Bool) (n : ℕ) (from : State) (k : ℕ) → Out n (top n) k → how_many k (branch b n from).notes ≡ 0
  if_range true n from k out = fr.range (no_arm n) from k (λ x y. out (omega arith) (omega arith))
  if_range false n from k out = fl.range n from k (λ x y. out x (omega arith))

  if_within : (around n : ℕ) → AllByRecursion (IsWithin around n (top n)) (head around n ∷ forks_of_arm l n ++ forks_of_arm r (no_arm n))
  if_within around n = (
    directly refl (omega arith) (omega arith) (omega arith) (omega arith),
    all_joined (IsWithin around n (top n)) (forks_of_arm l n) (forks_of_arm r (no_arm n))
        (all_map (IsInside n (n + 1 + arms_of l)) (IsWithin around n (top n))
        (λ f i. deeper (wider n (n + 1 + arms_of l) n (top n) (omega arith) (omega arith) f i)) (forks_of_arm l n) (fl.inside n))
        (all_map (IsInside (no_arm n) (no_arm n + 1 + arms_of r)) (IsWithin around n (top n))
        (λ f i. deeper (wider (no_arm n) (no_arm n + 1 + arms_of r) n (top n) (omega arith) (omega arith) f i)) (forks_of_arm r (no_arm n))
        (fr.inside (no_arm n))),
  )

  if_even : (b : Bool) (around n : ℕ) (from : State) → around < n
      → AllByRecursion (IsEven (around ∷ (branch b n from).notes)) (head around n ∷ forks_of_arm l n ++ forks_of_arm r (no_arm n))
  if_even false around n from low =
      let ns = (tell_arm l n from).notes in (
        head_even (how_many around (around ∷ ns)) (how_many n (around ∷ ns)) (how_many (no_arm n) (around ∷ ns))
            (of_same around ns ∙ ap (λ z. 1 + z) (fl.range n from around (out_before n (n + 1 + arms_of l) around low)))
            (of_other n around ns (λ h. omega arith) ∙ fl.entered n from)
            (of_other (no_arm n) around ns (λ h. omega arith) ∙ fl.range n from (no_arm n) (λ x y. omega arith)),
        all_joined (IsEven (around ∷ ns)) (forks_of_arm l n) (forks_of_arm r (no_arm n))
            (all_map_two (IsInside n (n + 1 + arms_of l)) (IsEven ns) (IsEven (around ∷ ns))
            (one_before around n (n + 1 + arms_of l) low ns) (forks_of_arm l n) (fl.inside n) (fl.even n from))
            (all_map (IsInside (no_arm n) (no_arm n + 1 + arms_of r)) (IsEven (around ∷ ns))
            (λ f i. one_before around (no_arm n) (no_arm n + 1 + arms_of r) (omega arith) ns f i
            (none_inside (no_arm n) (no_arm n + 1 + arms_of r) ns (λ k a b. fl.range n from k (λ x y. omega arith)) f i))
            (forks_of_arm r (no_arm n)) (fr.inside (no_arm n))),
      )
  if_even true around n from low =
      let ns = (tell_arm r (no_arm n) from).notes in (
        head_even_last (how_many around (around ∷ ns)) (how_many n (around ∷ ns)) (how_many (no_arm n) (around ∷ ns))
            (of_same around ns ∙ ap (λ z. 1 + z) (fr.range (no_arm n) from around (λ x y. omega arith)))
            (of_other n around ns (λ h. omega arith) ∙ fr.range (no_arm n) from n (λ x y. omega arith))
            (of_other (no_arm n) around ns (λ h. omega arith) ∙ fr.entered (no_arm n) from),
        all_joined (IsEven (around ∷ ns)) (forks_of_arm l n) (forks_of_arm r (no_arm n))
            (all_map (IsInside n (n + 1 + arms_of l)) (IsEven (around ∷ ns))
            (λ f i. one_before around n (n + 1 + arms_of l) low ns f i
            (none_inside n (n + 1 + arms_of l) ns (λ k a b. fr.range (no_arm n) from k (λ x y. omega arith)) f i))
            (forks_of_arm l n) (fl.inside n))
            (all_map_two (IsInside (no_arm n) (no_arm n + 1 + arms_of r)) (IsEven ns) (IsEven (around ∷ ns))
            (one_before around (no_arm n) (no_arm n + 1 + arms_of r) (omega arith) ns) (forks_of_arm r (no_arm n)) (fr.inside (no_arm n))
            (fr.even (no_arm n) from)),
      )

  pub fair_if : IsFair (step_tells (o.If test l r))
  fair_if = record {
    range = λ n from k out. if_range ((value_in from test).number == 0) n from k out;
    within = if_within;
    even = λ around n from low. if_even ((value_in from test).number == 0) around n from low;
  }
