-- What the parts of steps without counts are given: that they have no counts, and that there is room for their arms.
use Rattle.std.proofs.Common.{◌≡◌, ℕ, ◌+◌, ◌<◌, ◌≤◌, true, List, map, length, take, get_or, sym, subst, arith}
use Rattle.std.specs.List.{list_all}
use Rattle.design_tree.specs.declared.typed.Typed.{Typed}
use Rattle.design_tree.specs.declared.step.StepArm.{StepArm}
use Rattle.design_tree.specs.declared.step.Step.{Step}
use Rattle.design_tree.specs.declared.step.Step.TheVariants as s
use Rattle.counted_circuit.specs.Inserted.{ArmsAreCounted}
use Rattle.counted_circuit.specs.Tells.{TellingArm, tells, arm_telling, arms_of, arms_of_arms}
use Rattle.counted_circuit.proofs.TellsNumbers.{number_after, number_after_arms, tells-arm}
use Rattle.counted_copy.specs.Blocks.{is_uncounted, is_uncounted_arm, IsCountedBlock}
use Rattle.counted_copy.proofs.Uncounted as parts

-- the two things that a block is given, and the arms of a `case`
abbrev pub GivenBlock : ℕ → ℕ → List Step → Type 0
GivenBlock n len ss = (list_all is_uncounted ss ≡ true) × (n + 1 + arms_of (map tells ss) ≤ len)

abbrev pub GivenArms : ℕ → ℕ → List StepArm → Type 0
GivenArms n len arms = (list_all is_uncounted_arm arms ≡ true) × (n + arms_of_arms (map arm_telling arms) ≤ len)

module _ (a : Step) (n len : ℕ) (plain : is_uncounted a ≡ true) (room : n + (tells a).arms ≤ len) where
  pub of_yes : (test : Typed) (left right xs : List Step) → a ≡ s.If test left right → xs ≡ left → GivenBlock n len xs
  of_yes test left right xs is at =
      let e = parts.arms_of_if a test left right is in
      let r : n + 1 + arms_of (map tells left) ≤ len = omega arith in
      subst (GivenBlock n len) (sym at) (parts.yes_uncounted a test left right is plain, r)

  pub of_no : (carried : ℕ → List ℕ) (test : Typed) (left right xs ys left' : List Step) (m : ℕ) → a ≡ s.If test left right → xs ≡ left → ys ≡ right
      → IsCountedBlock carried n xs left' m → GivenBlock m len ys
  of_no carried test left right xs ys left' m is at bt block =
      let e = parts.arms_of_if a test left right is in
      let b = subst (λ (zs : List Step). IsCountedBlock carried n zs left' m) at block in
      let k = number_after b.counted in
      let r : m + 1 + arms_of (map tells right) ≤ len = omega arith in
      subst (GivenBlock m len) (sym bt) (parts.no_uncounted a test left right is plain, r)

  pub of_arms : (on : Typed) (arms xs : List StepArm) (rest : List Step) → a ≡ s.Case on arms rest → xs ≡ arms → GivenArms n len xs
  of_arms on arms xs rest is at =
      let e = parts.arms_of_case a on arms rest is in
      let r : n + arms_of_arms (map arm_telling arms) ≤ len = omega arith in
      subst (GivenArms n len) (sym at) (parts.arms_uncounted a on arms rest is plain, r)

  pub of_rest : (carried : ℕ → List ℕ) (on : Typed) (arms xs arms' : List StepArm) (rest ys : List Step) (m : ℕ) → a ≡ s.Case on arms rest → xs ≡ arms
      → ys ≡ rest → ArmsAreCounted carried n xs arms' m → GivenBlock m len ys
  of_rest carried on arms xs arms' rest ys m is at bt counted =
      let e = parts.arms_of_case a on arms rest is in
      let k = number_after_arms (subst (λ (zs : List StepArm). ArmsAreCounted carried n zs arms' m) at counted) in
      let r : m + 1 + arms_of (map tells rest) ≤ len = omega arith in
      subst (GivenBlock m len) (sym bt) (parts.rest_uncounted a on arms rest is plain, r)

-- the body of an arm of a `case`
pub of_body : (arm : StepArm) (n len : ℕ) (xs : List Step) → is_uncounted_arm arm ≡ true → n + 1 + arms_of (arm_telling arm).body ≤ len → xs ≡ arm.body
    → GivenBlock n len xs
of_body arm n len xs plain room at =
    subst (GivenBlock n len) (sym at) (
      parts.body_uncounted arm plain,
      subst (λ (t : TellingArm). n + 1 + arms_of t.body ≤ len) (tells-arm arm.items arm.body) room,
    )

-- ---- one of several

-- a step of a block that is copied up to it
pub of_step : (carried : ℕ → List ℕ) (n m len i : ℕ) (xs ts : List Step) (x : Step) → i < length xs → x ≡ get_or xs i x → GivenBlock n len xs
    → IsCountedBlock carried n (take i xs) ts m → (is_uncounted x ≡ true) × (m + (tells x).arms ≤ len)
of_step carried n m len i xs ts x lt is given block =
    let k = number_after block.counted in
    let e = parts.sum_at (λ y. (tells y).arms) xs i x lt is in
    let f = parts.as_total (take i xs) in
    let g = parts.as_total xs in
    let h = given.1 in
    (parts.one_of is_uncounted xs i x lt is given.0, omega arith)

-- an arm of a `case` whose arms are copied up to it
pub of_arm : (carried : ℕ → List ℕ) (n m len i : ℕ) (xs ts : List StepArm) (x : StepArm) → i < length xs → x ≡ get_or xs i x → GivenArms n len xs
    → ArmsAreCounted carried n (take i xs) ts m → (is_uncounted_arm x ≡ true) × (m + 1 + arms_of (arm_telling x).body ≤ len)
of_arm carried n m len i xs ts x lt is given counted =
    let k = number_after_arms counted in
    let e = parts.sum_at (λ y. 1 + arms_of (arm_telling y).body) xs i x lt is in
    let f = parts.arms_as_total (take i xs) in
    let g = parts.arms_as_total xs in
    let h = given.1 in
    (parts.one_of is_uncounted_arm xs i x lt is given.0, omega arith)
