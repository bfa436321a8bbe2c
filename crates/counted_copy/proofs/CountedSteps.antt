-- Copies with counts: one step more, and each kind of step.
use Rattle.std.proofs.Common.{◌≡◌, ℕ, ◌+◌, ◌<◌, List, [], ◌∷◌, ◌++◌, map, length, take, get_or, refl, sym, ◌∙◌, ap, ap₂, subst, append_assoc, arith}
use Rattle.std.proofs.lemmas.List.{append-nil, take_more}
use Rattle.design_tree.specs.declared.typed.Typed.{Typed}
use Rattle.design_tree.specs.declared.step.Target.{Target}
use Rattle.design_tree.specs.declared.step.Piece.{Piece}
use Rattle.design_tree.specs.declared.step.StepItem.{StepItem}
use Rattle.design_tree.specs.declared.step.StepArm.{StepArm}
use Rattle.design_tree.specs.declared.step.Step.{Step}
use Rattle.design_tree.specs.declared.step.Step.TheVariants as s
use Rattle.design_meaning.specs.Steps.{step_arm}
use Rattle.counted_circuit.specs.Inserted.{counts, IsPlain, set, later, show, finish, stop, AreCounted, no_steps, plain, an_if, a_case}
use Rattle.counted_circuit.specs.Inserted.{ArmsAreCounted, no_arms, an_arm}
use Rattle.counted_circuit.specs.Tells.{tells}
use Rattle.counted_copy.specs.Blocks.{IsCountedStep, IsCountedArm, IsCountedBlock}
use Rattle.counted_copy.proofs.Uncounted.{arms_of_if, arms_of_case}

-- ---- one after the other

joined : {carried : ℕ → List ℕ} {n m k : ℕ} {ss ts us vs : List Step} → AreCounted carried n ss ts m → AreCounted carried m us vs k
    → AreCounted carried n (ss ++ us) (ts ++ vs) k
joined no_steps d = d
joined (plain p c) d = plain p (joined c d)
joined (an_if test l r c) d = an_if test l r (joined c d)
joined (a_case on a r c) d = a_case on a r (joined c d)

arms_joined : {carried : ℕ → List ℕ} {n m k : ℕ} {ss ts us vs : List StepArm} → ArmsAreCounted carried n ss ts m → ArmsAreCounted carried m us vs k
    → ArmsAreCounted carried n (ss ++ us) (ts ++ vs) k
arms_joined no_arms d = d
arms_joined (an_arm items b c) d = an_arm items b (arms_joined c d)

-- the list up to a place and what stands there
pub next_front : {X : Type 0} (xs : List X) (i : ℕ) (x : X) → i < length xs → x ≡ get_or xs i x → take i xs ++ x ∷ [] ≡ take (i + 1) xs
next_front xs i x lt is = ap (λ y. take i xs ++ y ∷ []) is ∙ sym (take_more xs i x lt)

module _ (carried : ℕ → List ℕ) where
  -- a block of no steps as yet
  pub block_first : (n : ℕ) (xs ts : List Step) → ts ≡ counts (carried n) → IsCountedBlock carried n (take 0 xs) ts (n + 1)
  block_first n xs ts is = record { steps = []; counted = no_steps; block = is ∙ sym (append-nil (counts (carried n))) }

  -- a block of one step more
  pub block_next : (n m k i : ℕ) (xs ts : List Step) (a b : Step) → i < length xs → a ≡ get_or xs i a
      → IsCountedBlock carried n (take i xs) ts m → IsCountedStep carried m a b k → IsCountedBlock carried n (take (i + 1) xs) (ts ++ b ∷ []) k
  block_next n m k i xs ts a b lt is block one = record {
    steps = block.steps ++ b ∷ [];
    counted = subst (λ (ss : List Step). AreCounted carried (n + 1) ss (block.steps ++ b ∷ []) k) (next_front xs i a lt is) (joined block.counted one.counted);
    block = ap (λ (ss : List Step). ss ++ b ∷ []) block.block ∙ append_assoc (counts (carried n)) block.steps (b ∷ []);
  }

  -- one arm more
  pub arms_next : (n m k i : ℕ) (xs ts : List StepArm) (a b : StepArm) → i < length xs → a ≡ get_or xs i a
      → ArmsAreCounted carried n (take i xs) ts m → IsCountedArm carried m a b k → ArmsAreCounted carried n (take (i + 1) xs) (ts ++ b ∷ []) k
  arms_next n m k i xs ts a b lt is arms one =
      subst (λ (ss : List StepArm). ArmsAreCounted carried n ss (ts ++ b ∷ []) k) (next_front xs i a lt is) (arms_joined arms one)

  -- ---- each kind of step

  pub plain_counted : (n : ℕ) (a b : Step) → IsPlain b → b ≡ a → IsCountedStep carried n a b n
  plain_counted n a b p is = record {
    counted = subst (λ (x : Step). AreCounted carried n (x ∷ []) (b ∷ []) n) is (plain p no_steps);
    plain = λ none. is;
  }

  pub set_counted : (n : ℕ) (a : Step) (targets ts targets' : List Target) (value value' : Typed) → a ≡ s.Set targets value → targets' ≡ ts → ts ≡ targets
      → value' ≡ value → IsCountedStep carried n a (s.Set targets' value') n
  set_counted n a targets ts targets' value value' is e f g = plain_counted n a (s.Set targets' value') (set targets' value')
      (ap₂ (λ (t : List Target) (v : Typed). s.Set t v) (e ∙ f) g ∙ sym is)

  pub later_counted : (n : ℕ) (a : Step) (targets ts targets' : List Target) (value value' : Typed) → a ≡ s.Later targets value → targets' ≡ ts
      → ts ≡ targets → value' ≡ value → IsCountedStep carried n a (s.Later targets' value') n
  later_counted n a targets ts targets' value value' is e f g = plain_counted n a (s.Later targets' value') (later targets' value')
      (ap₂ (λ (t : List Target) (v : Typed). s.Later t v) (e ∙ f) g ∙ sym is)

  pub show_counted : (n : ℕ) (a : Step) (pieces ps pieces' : List Piece) → a ≡ s.Show pieces → pieces' ≡ ps → ps ≡ pieces
      → IsCountedStep carried n a (s.Show pieces') n
  show_counted n a pieces ps pieces' is e f = plain_counted n a (s.Show pieces') (show pieces') (ap (λ (x : List Piece). s.Show x) (e ∙ f) ∙ sym is)

  pub finish_counted : (n : ℕ) (a : Step) → a ≡ s.Finish → IsCountedStep carried n a s.Finish n
  finish_counted n a is = plain_counted n a s.Finish finish (sym is)

  pub stop_counted : (n : ℕ) (a : Step) → a ≡ s.Stop → IsCountedStep carried n a s.Stop n
  stop_counted n a is = plain_counted n a s.Stop stop (sym is)

  -- a copy in the place of another
  moved : (n k : ℕ) (a a' b b' : Step) → a ≡ a' → b ≡ b' → AreCounted carried n (a' ∷ []) (b' ∷ []) k → AreCounted carried n (a ∷ []) (b ∷ []) k
  moved n k a a' b b' e f c =
      subst (λ (y : Step). AreCounted carried n (a ∷ []) (y ∷ []) k) (sym f) (subst (λ (x : Step). AreCounted carried n (x ∷ []) (b' ∷ []) k) (sym e) c)

  pub if_counted : (n m k : ℕ) (a : Step) (test test' : Typed) (left left' right right' : List Step) → a ≡ s.If test left right → test' ≡ test
      → IsCountedBlock carried n left left' m → IsCountedBlock carried m right right' k → IsCountedStep carried n a (s.If test' left' right') k
  if_counted n m k a test test' left left' right right' is e l r = record {
    counted = moved n k a (s.If test left right) (s.If test' left' right') (s.If test (counts (carried n) ++ l.steps) (counts (carried m) ++ r.steps)) is
        (ap (λ (t : Typed). s.If t left' right') e ∙ ap₂ (λ (y z : List Step). s.If test y z) l.block r.block)
        (an_if test l.counted r.counted no_steps);
    plain = λ none. let h = arms_of_if a test left right is in absurd (omega arith);
  }

  pub case_counted : (n m k : ℕ) (a : Step) (on on' : Typed) (arms arms' : List StepArm) (rest rest' : List Step) → a ≡ s.Case on arms rest → on' ≡ on
      → ArmsAreCounted carried n arms arms' m → IsCountedBlock carried m rest rest' k → IsCountedStep carried n a (s.Case on' arms' rest') k
  case_counted n m k a on on' arms arms' rest rest' is e l r = record {
    counted = moved n k a (s.Case on arms rest) (s.Case on' arms' rest') (s.Case on arms' (counts (carried m) ++ r.steps)) is
        (ap (λ (t : Typed). s.Case t arms' rest') e ∙ ap (λ (y : List Step). s.Case on arms' y) r.block)
        (a_case on l r.counted no_steps);
    plain = λ none. let h = arms_of_case a on arms rest is in absurd (omega arith);
  }

  pub arm_counted : (n m : ℕ) (a : StepArm) (items' : List StepItem) (body' : List Step) → items' ≡ a.items
      → IsCountedBlock carried n a.body body' m → IsCountedArm carried n a (step_arm items' body') m
  arm_counted n m a items' body' e block =
      subst (λ (b : StepArm). ArmsAreCounted carried n (a ∷ []) (b ∷ []) m)
      (sym (ap₂ (λ (i : List StepItem) (b : List Step). step_arm i b) e block.block))
      (an_arm a.items block.counted no_arms)

  -- no arms as yet
  pub arms_first : (n : ℕ) (ts : List StepArm) → ts ≡ [] → ArmsAreCounted carried n [] ts n
  arms_first n ts none = subst (λ (x : List StepArm). ArmsAreCounted carried n [] x n) (sym none) no_arms
