-- Laws of numbers modulo 2 ^ w and of their signed readings, stated once over the width.
use Rattle.std.proofs.Common.{◌≡◌, ℕ, zero, suc, ◌+◌, ◌-◌, ◌*◌, ◌/◌, ◌%◌, ◌^◌, ◌<◌, ◌≤◌, sym, ◌∙◌, ap, subst, arith, bit_and, zero-add, mul_assoc, inl, inr}
use Rattle.std.proofs.Common.{true, pos, negsuc, ◌-ℤ◌, neg_ℤ}
use Rattle.std.proofs.Math.Pow.{mod-mod-pow, not_mod}
use Rattle.std.proofs.Math.Nat.{mod-eq_of_lt, add-mul-mod_self_right, mul-mod_left, suc-mul, pow-le-pow_right, div-eq_of_lt, suc-mod, mod_self, zero-mod}
use Rattle.std.proofs.lemmas.Nat.{and_mask, pow-add, pow_pos, shr_le, mod_below}
use Rattle.std.proofs.lemmas.Nat.Bits.{ones_shr}
use Rattle.std.proofs.lemmas.Bool.{cases_lt}
use Rattle.std.proofs.lemmas.Int.{ints}
use Rattle.std.specs.Prelude.{unsigned_abs}
use Rattle.std.specs.Int.{int_div_euclid}
use Rattle.bit_values.specs.Values as value

-- ---- 128 bits and w bits

-- what is reduced to 128 bits on the way is the same at w bits
pub mod_wide : (n w : ℕ) → w ≤ 128 → n % 2 ^ 128 % 2 ^ w ≡ n % 2 ^ w
mod_wide n w h =
    let e : (128 - w) + w ≡ 128 = omega arith in
    let P : ℕ → Type 0 = λ m. n % 2 ^ m % 2 ^ w ≡ n % 2 ^ w in
    subst P e (mod-mod-pow n (128 - w) w)

-- w ones
pub ones_is : (w : ℕ) → w ≤ 128 → (2 ^ 128 - 1) / 2 ^ (128 - w) ≡ 2 ^ w - 1
ones_is w h =
    let within : 128 - w ≤ 128 = omega arith in
    let e : 128 - (128 - w) ≡ w = omega arith in
    ones_shr 128 (128 - w) within ∙ ap (λ k. 2 ^ k - 1) e

pub masked_is : (n w : ℕ) → w ≤ 128 → bit_and n ((2 ^ 128 - 1) / 2 ^ (128 - w)) ≡ n % 2 ^ w
masked_is n w h = ap (bit_and n) (ones_is w h) ∙ and_mask n w

pow_parts : (w : ℕ) → w ≤ 128 → 2 ^ 128 ≡ 2 ^ (128 - w) * 2 ^ w
pow_parts w h =
    let e : (128 - w) + w ≡ 128 = omega arith in
    let P : ℕ → Type 0 = λ m. 2 ^ m ≡ 2 ^ (128 - w) * 2 ^ w in
    subst P e (pow-add 2 (128 - w) w)

borrow_of : (a b m k : ℕ) → b ≤ m → zero < k → a + (k * m - b) ≡ (a + (m - b)) + (k - 1) * m
borrow_of a b m zero h p = omega arith
borrow_of a b m (suc k) h p =
    let e = suc-mul k m in
    let z : suc k - 1 ≡ k = omega arith in
    rw z (omega arith)

wide_sub : (a b w : ℕ) → w ≤ 128 → b ≤ 2 ^ w → (a + (2 ^ 128 - b)) % 2 ^ 128 % 2 ^ w ≡ (a + (2 ^ w - b)) % 2 ^ w
wide_sub a b w h f =
    mod_wide (a + (2 ^ 128 - b)) w h
    ∙ ap (λ n. (a + (n - b)) % 2 ^ w) (pow_parts w h)
    ∙ ap (λ n. n % 2 ^ w) (borrow_of a b (2 ^ w) (2 ^ (128 - w)) f (pow_pos (128 - w)))
    ∙ add-mul-mod_self_right (a + (2 ^ w - b)) (2 ^ (128 - w) - 1) (2 ^ w)

-- ---- integers modulo 2 ^ w

pub less : (a b : ℕ) → a < b → pos a -ℤ pos b ≡ negsuc (b - suc a)
less a b h = omega (arith, ints)

pub more : (a b : ℕ) → b ≤ a → pos a -ℤ pos b ≡ pos (a - b)
more a b h = omega (arith, ints)

modulo-sub : (w a b : ℕ) → a < 2 ^ w → b < 2 ^ w → value.modulo w (pos a -ℤ pos b) ≡ (a + (2 ^ w - b)) % 2 ^ w
modulo-sub w a b f g =
    elim (cases_lt a b) [
      | inl h ↦ (
          let small : b - suc a < 2 ^ w = omega arith in
          let last : a + (2 ^ w - b) < 2 ^ w = omega arith in
          ap (value.modulo w) (less a b h) ∙ ap (λ n. 2 ^ w - 1 - n) (mod-eq_of_lt small) ∙ omega arith ∙ sym (mod-eq_of_lt last))
      | inr h ↦ (
          let e : a + (2 ^ w - b) ≡ (a - b) + 1 * 2 ^ w = omega arith in
          ap (value.modulo w) (more a b h) ∙ sym (ap (λ n. n % 2 ^ w) e ∙ add-mul-mod_self_right (a - b) 1 (2 ^ w)))
    ]

-- the difference of two values, from a difference at 128 bits
pub sub_wide : (a b w : ℕ) → w ≤ 128 → a < 2 ^ w → b < 2 ^ w → (a + (2 ^ 128 - b)) % 2 ^ 128 % 2 ^ w ≡ value.sub w a b
sub_wide a b w h f g = wide_sub a b w h (omega arith) ∙ sym (modulo-sub w a b f g)

after_mod : (n m : ℕ) → zero < m → m - 1 - n % m ≡ (m - suc n % m) % m
after_mod n m p =
    let low : n % m < m = mod_below n m p in
    let e : m - 1 - n % m ≡ (m - suc (n % m) % m) % m = elim (cases_lt (suc (n % m)) m) [
      | inl h ↦ (let k : suc (n % m) % m ≡ suc (n % m) = mod-eq_of_lt h in let o : m - suc (n % m) < m = omega arith in rw k (omega arith
          ∙ sym (mod-eq_of_lt o)))
      | inr h ↦ (let k : suc (n % m) ≡ m = omega arith in let y : m - 1 - n % m ≡ 0 = omega arith in let z : m - 0 ≡ m = omega arith in
          rw (y, k, mod_self m, z) (sym (mod_self m)))
    ] in
    rw (suc-mod n m) e

modulo-neg : (w n : ℕ) → value.modulo w (neg_ℤ (pos n)) ≡ (2 ^ w - n % 2 ^ w) % 2 ^ w
modulo-neg w zero = let z : 2 ^ w - 0 ≡ 2 ^ w = omega arith in rw (zero-mod (2 ^ w), z) (sym (mod_self (2 ^ w)))
modulo-neg w (suc n) = after_mod n (2 ^ w) (pow_pos w)

-- the negative of a value, from a difference at 128 bits
pub neg_wide : (a w : ℕ) → w ≤ 128 → a < 2 ^ w → (0 + (2 ^ 128 - a)) % 2 ^ 128 % 2 ^ w ≡ value.neg w a
neg_wide a w h f =
    wide_sub 0 a w h (omega arith)
    ∙ ap (λ n. n % 2 ^ w) (zero-add (2 ^ w - a))
    ∙ ap (λ n. (2 ^ w - n) % 2 ^ w) (sym (mod-eq_of_lt f))
    ∙ sym (modulo-neg w a)

-- the negative of a number may be taken after its reduction
pub neg-reduced : (w n : ℕ) → value.neg w (n % 2 ^ w) ≡ value.neg w n
neg-reduced w n =
    let small : n % 2 ^ w < 2 ^ w = mod_below n (2 ^ w) (pow_pos w) in
    modulo-neg w (n % 2 ^ w) ∙ ap (λ k. (2 ^ w - k) % 2 ^ w) (mod-eq_of_lt small) ∙ sym (modulo-neg w n)

pub not_wide : (a w : ℕ) → w ≤ 128 → a < 2 ^ w → (2 ^ 128 - 1 - a) % 2 ^ w ≡ value.not w a
not_wide a w h f =
    let e : (128 - w) + w ≡ 128 = omega arith in
    let P : ℕ → Type 0 = λ m. (2 ^ m - 1 - a) % 2 ^ w ≡ 2 ^ w - 1 - a in
    subst P e (not_mod (128 - w) w f)

-- ---- signed readings

pub signed_high : (w n : ℕ) → n < 2 ^ w → 2 ^ (w - 1) ≤ n → value.signed w n ≡ negsuc (2 ^ w - suc n)
signed_high w n f h = let e = less n (2 ^ w) f in grind (arith, e)

pub signed_low : (w n : ℕ) → n < 2 ^ (w - 1) → value.signed w n ≡ pos n
signed_low w n h = grind arith

-- the negative of a value with its top bit set is the distance of its signed reading from 0
pub neg_high : (w n : ℕ) → n < 2 ^ w → 2 ^ (w - 1) ≤ n → value.neg w n ≡ unsigned_abs (value.signed w n)
neg_high w n f h =
    let p : zero < 2 ^ (w - 1) = pow_pos (w - 1) in
    let last : 2 ^ w - n < 2 ^ w = omega arith in
    modulo-neg w n
    ∙ ap (λ k. (2 ^ w - k) % 2 ^ w) (mod-eq_of_lt f)
    ∙ mod-eq_of_lt last
    ∙ omega arith
    ∙ sym (ap unsigned_abs (signed_high w n f h))

-- ---- extension

pub wider : (n v w : ℕ) → n < 2 ^ v → v ≤ w → n < 2 ^ w
wider n v w f h = let p : 2 ^ v ≤ 2 ^ w = pow-le-pow_right (omega arith) h in omega arith

-- zeros above the turned bits, all turned again, are ones above the bits
pub extend_high : (v w n : ℕ) → n < 2 ^ v → v ≤ w → 2 ^ (v - 1) ≤ n → value.not w (value.not v n) ≡ value.extend v w true n
extend_high v w n f within h =
    let small : 2 ^ v - suc n < 2 ^ v = omega (arith, pow_pos v) in
    ap (λ k. 2 ^ w - 1 - k) (let e : 2 ^ v - 1 - n ≡ 2 ^ v - suc n = omega arith in e ∙ sym (mod-eq_of_lt (wider (2 ^ v - suc n) v w small within)))
    ∙ sym (ap (value.modulo w) (signed_high v n f h))

-- ---- shifts

pub shl_out : (a by w : ℕ) → w ≤ by → value.shl w a by ≡ 0
shl_out a by w h =
    let e : (by - w) + w ≡ by = omega arith in
    let P : ℕ → Type 0 = λ m. (a * 2 ^ m) % 2 ^ w ≡ 0 in
    subst P e (ap (λ n. (a * n) % 2 ^ w) (pow-add 2 (by - w) w) ∙ ap (λ n. n % 2 ^ w) (sym (mul_assoc a (2 ^ (by - w)) (2 ^ w)))
    ∙ mul-mod_left (a * 2 ^ (by - w)) (2 ^ w))

pub shr_out : (a by w : ℕ) → a < 2 ^ w → w ≤ by → value.shr a by ≡ 0
shr_out a by w f h = div-eq_of_lt (wider a w by f h)

-- a shift of the turned bits, turned again, fills with ones
pub sar_high : (w n by : ℕ) → n < 2 ^ w → 2 ^ (w - 1) ≤ n → value.not w (value.shr (value.not w n) by) ≡ value.sar w n by
sar_high w n by f h =
    let e : 2 ^ w - 1 - n ≡ 2 ^ w - suc n = omega arith in
    let small : (2 ^ w - suc n) / 2 ^ by < 2 ^ w = omega (arith, shr_le (2 ^ w - suc n) by) in
    ap (λ k. 2 ^ w - 1 - k / 2 ^ by) e
    ∙ ap (λ k. 2 ^ w - 1 - k) (sym (mod-eq_of_lt small))
    ∙ sym (ap (λ z. value.modulo w (int_div_euclid z (pos (2 ^ by)))) (signed_high w n f h))
