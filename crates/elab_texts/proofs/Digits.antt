-- Digits without leading zeros, and integers.
use Rattle.std.proofs.Common.{◌≡◌, ◌∙◌, sym, ap, refl, ℕ, suc, ◌+◌, ◌<◌, ◌≤◌, Bool, true, false, cond, List, [], ◌∷◌, ◌++◌, length, get_or, drop, arith, eq-eqb}
use Rattle.std.proofs.Common.{ne_eqb}
use Rattle.std.specs.Prelude.{ℤ, pos, negsuc, int_lt, unsigned_abs}
use Rattle.std.proofs.lemmas.Int.{ints}
use Rattle.circuit_run.specs.Digits.{trimmed, decimal_text, integer_text}

-- a leading zero less
pub trimmed_drop : (ds : List ℕ) → 1 < length ds → get_or ds 0 0 ≡ 48 → trimmed (drop 1 ds) ≡ trimmed ds
trimmed_drop [] h e = refl
trimmed_drop (d ∷ []) h e = absurd (omega arith)
trimmed_drop (d ∷ x ∷ ds) h e = sym (ap (λ b. cond b (trimmed (x ∷ ds)) (d ∷ x ∷ ds)) (eq-eqb d 48 e))

pub trimmed_short : (ds : List ℕ) → length ds ≤ 1 → trimmed ds ≡ ds
trimmed_short [] h = refl
trimmed_short (d ∷ []) h = refl
trimmed_short (d ∷ x ∷ ds) h = absurd (omega arith)

pub trimmed_other : (ds : List ℕ) → (get_or ds 0 0 ≡ 48 → ⊥) → trimmed ds ≡ ds
trimmed_other [] h = refl
trimmed_other (d ∷ []) h = refl
trimmed_other (d ∷ x ∷ ds) h = ap (λ b. cond b (trimmed (x ∷ ds)) (d ∷ x ∷ ds)) (ne_eqb d 48 h)

pub negative : (z : ℤ) (n : ℕ) → int_lt z (pos 0) ≡ true → n ≡ unsigned_abs z → 45 ∷ decimal_text n ≡ integer_text z
negative (pos k) n h e = absurd (omega (arith, ints))
negative (negsuc k) n h e = ap (λ m. 45 ∷ decimal_text m) e

pub positive : (z : ℤ) (n : ℕ) → int_lt z (pos 0) ≡ false → n ≡ unsigned_abs z → decimal_text n ≡ integer_text z
positive (pos k) n h e = ap decimal_text e
positive (negsuc k) n h e = absurd (omega (arith, ints))
