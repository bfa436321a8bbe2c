-- The line of outputs, piece by piece.
use Rattle.std.proofs.Common.{◌≡◌, ◌∙◌, sym, ap, refl, ℕ, ◌<◌, ◌≤◌, ◌+◌, ◌/◌, drop, length, List, [], ◌∷◌, ◌++◌, map, append_assoc, arith}
use Rattle.std.specs.Prelude.{flat_map, slice_index}
use Rattle.circuit_run.specs.Digits.{hex_columns}
use Rattle.circuit_run.specs.States.{State}
use Rattle.circuit_run.specs.Runs.{output_text}
use Rattle.cycle_parts.specs.Lines.{joined_texts}

-- one, and each of the others behind a blank
pub joined_is : (s : State) (v : ℕ) (vs : List ℕ) → joined_texts s (v ∷ vs) ≡ output_text s v ++ flat_map (λ u. 32 ∷ output_text s u) vs
joined_is s v [] = sym (no_more (output_text s v))
  where
    no_more : (xs : List ℕ) → xs ++ [] ≡ xs
    no_more [] = refl
    no_more (x ∷ xs) = ap (λ l. x ∷ l) (no_more xs)
joined_is s v (u ∷ vs) = ap (λ l. output_text s v ++ (32 ∷ l)) (joined_is s u vs)

pub joined_of : (s : State) (outputs : List ℕ) → 0 < length outputs
    → joined_texts s outputs ≡ output_text s (slice_index outputs 0) ++ flat_map (λ u. 32 ∷ output_text s u) (drop 1 outputs)
joined_of s [] lt = absurd (omega (arith, lt))
joined_of s (v ∷ vs) lt = joined_is s v vs

-- a word of at most 128 bits has at most 32 digits
pub columns_few : (w : ℕ) → w ≤ 128 → hex_columns w ≤ 32
columns_few w h = omega (arith, h)
