-- Integers as 32 bits.
use Rattle.std.proofs.Common.{◌≡◌, ◌∙◌, sym, ap, refl, subst, ℕ, suc, ◌-◌, ◌<◌, ◌≤◌, Bool, true, false, cond, nat_lt, arith}
use Rattle.std.specs.Prelude.{ℤ, pos, negsuc, int_lt, unsigned_abs, neg_ℤ, ◌-ℤ◌}
use Rattle.std.proofs.lemmas.Int.{ints}
use Rattle.std.proofs.Math.Nat.{mod-eq_of_lt}
use Rattle.std.proofs.Common.{lt-ltb}
use Rattle.bit_values.specs.Values as value

pub negative : (z : ℤ) (n : ℕ) → int_lt z (pos 0) ≡ true → n ≡ unsigned_abs z → value.modulo 32 (neg_ℤ (pos n)) ≡ value.modulo 32 z
negative (pos k) n h e = absurd (omega (arith, ints))
negative (negsuc k) n h e = ap (λ m. value.modulo 32 (neg_ℤ (pos m))) e

pub positive : (z : ℤ) (n : ℕ) → int_lt z (pos 0) ≡ false → n < 4294967296 → n ≡ unsigned_abs z → n ≡ value.modulo 32 z
positive (pos k) n h small e = e ∙ sym (mod-eq_of_lt (subst (λ m. m < 4294967296) e small))
positive (negsuc k) n h small e = absurd (omega (arith, ints))

pub low : (n : ℕ) → n < 2147483648 → pos n ≡ value.signed 32 n
low n h = sym (ap (λ b. cond b (pos n) (pos n -ℤ pos 4294967296)) (lt-ltb n 2147483648 h))
