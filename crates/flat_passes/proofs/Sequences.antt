-- The values of a loop variable from one on.
use Rattle.std.proofs.Common.{◌≡◌, ap, refl, ℕ, zero, suc, Bool, true, false, List, [], ◌∷◌}
use Rattle.source_meaning.specs.Loops.{values_while, goes_past}

module _ (test : ℕ → Bool) (step : ℕ → ℕ) where
  pub values_pass : (most n : ℕ) → test n ≡ true → values_while test step (suc most) n ≡ n ∷ values_while test step most (step n)
  values_pass most n e = ap (λ (b : Bool). elim b as (λ (x : Bool). List ℕ) [ true ↦ n ∷ values_while test step most (step n) | false ↦ [] ]) e

  pub values_over : (most n : ℕ) → test n ≡ false → values_while test step most n ≡ []
  values_over zero n e = refl
  values_over (suc most) n e =
      ap (λ (b : Bool). elim b as (λ (x : Bool). List ℕ) [ true ↦ n ∷ values_while test step most (step n) | false ↦ [] ]) e

  pub past_pass : (most n : ℕ) → test n ≡ true → goes_past test step (suc most) n ≡ goes_past test step most (step n)
  past_pass most n e = ap (λ (b : Bool). elim b as (λ (x : Bool). Bool) [ true ↦ goes_past test step most (step n) | false ↦ false ]) e

  pub past_over : (most n : ℕ) → test n ≡ false → goes_past test step most n ≡ false
  past_over zero n e = e
  past_over (suc most) n e = ap (λ (b : Bool). elim b as (λ (x : Bool). Bool) [ true ↦ goes_past test step most (step n) | false ↦ false ]) e
