-- The body of a cover as far as it is copied.
use Rattle.std.proofs.Common.{◌≡◌, ℕ, ◌+◌, ◌<◌, ◌≤◌, List, [], ◌∷◌, ◌++◌, length, get_or, refl, sym, ◌∙◌, ap, arith}
use Rattle.design_tree.specs.declared.typed.Typed.{Typed}
use Rattle.design_tree.specs.declared.step.Step.{Step}
use Rattle.design_tree.specs.declared.step.Step.TheVariants as s
use Rattle.counted_copy.specs.Processes.{IsTestWith, AreTestsWith}
use Rattle.counted_copy.proofs.CountedProcesses.{only_one}

-- nothing, or all of it
pub data SoFar (counted body : List Step) (i : ℕ) (copies : List Step) : Type 0 where
  nothing : i ≡ 0 → copies ≡ [] → SoFar counted body i copies
  all : i ≡ 1 → AreTestsWith counted body copies → SoFar counted body i copies

module _ (counted body copies : List Step) (i : ℕ) (test : Typed) (is : body ≡ s.If test [] [] ∷ []) where
  pub next_test : (a b : Step) → i < length body → a ≡ get_or body i a → SoFar counted body i copies → IsTestWith counted a b
      → SoFar counted body (i + 1) (copies ++ b ∷ [])
  next_test a b lt at (nothing e f) one = all (omega arith) (record {
    test = one.test;
    before = is ∙ ap (λ (x : Step). x ∷ []) (sym (only_one body (s.If test [] []) i a is lt at) ∙ one.before);
    after = ap (λ (xs : List Step). xs ++ b ∷ []) f ∙ ap (λ (x : Step). x ∷ []) one.after;
  })
  next_test a b lt at (all e tests) one = let h = ap length is in absurd (omega arith)

  pub all_tests : length body ≤ i → SoFar counted body i copies → AreTestsWith counted body copies
  all_tests end (nothing e f) = let h = ap length is in absurd (omega arith)
  all_tests end (all e tests) = tests
