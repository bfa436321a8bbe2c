-- Hexadecimal digits, one more at a time.
use Rattle.std.proofs.Common.{◌≡◌, ℕ, ◌+◌, ◌-◌, ◌*◌, ◌^◌, ◌<◌, ◌≤◌, Bool, true, false, cond, Option, None, Some, List, ◌∷◌, length, drop, get_or, refl, sym}
use Rattle.std.proofs.Common.{◌∙◌, ap, add-one, arith}
use Rattle.std.proofs.Math.Nat.{add-mul, mul_assoc, pow-suc, pow-le-pow_right}
use Rattle.std.proofs.Math.Seq.{drop-cons}
use Rattle.std.specs.List.{list_all}
use Rattle.cov_port.specs.Hexadecimal.{hex_digit, hex_digit_value, hex_value, is_hex_digit}

-- a byte with a value is a digit, and this is its value
digit_case : (test : Bool) (d v : ℕ) → cond test (Some v) None ≡ Some d → (test ≡ true) × (v ≡ d)
digit_case true d v is = (refl, cc)
digit_case false d v is = absurd (cc)

pub digit_is : (b d : ℕ) → hex_digit b ≡ Some d → (is_hex_digit b ≡ true) × (hex_digit_value b ≡ d)
digit_is b d is = digit_case (is_hex_digit b) d (hex_digit_value b) is

no_digit_case : (test : Bool) (v : ℕ) → cond test (Some v) None ≡ None → test ≡ false
no_digit_case true v is = absurd (cc)
no_digit_case false v is = refl

pub no_digit : (b : ℕ) → hex_digit b ≡ None → is_hex_digit b ≡ false
no_digit b is = no_digit_case (is_hex_digit b) (hex_digit_value b) is

-- a digit read behind a number counts at its own place
pub hex_more : (v b d : ℕ) (bs : List ℕ) → hex_digit_value b ≡ d → (16 * v + d) * 16 ^ length bs + hex_value bs ≡ v * 16 ^ length (b ∷ bs) + hex_value (b ∷ bs)
hex_more v b d bs is =
    let place = 16 ^ length bs in
    rw (← is) (omega (
      arith,
      add-mul (16 * v) (hex_digit_value b) place,
      mul_assoc 16 v place,
      ap (λ (k : ℕ). v * k) (pow-suc 16 (length bs)),
      mul_assoc v
          place 16,
    ))

-- one more digit takes at most one more place
pub hex_place_more : (v d i : ℕ) → v < 16 ^ i → d ≤ 15 → 16 * v + d < 16 ^ (i + 1)
hex_place_more v d i below digit = rw add-one (omega (arith, pow-suc 16 i))

-- a number of at most 32 digits fits 128 bits
pub hex_fit : (n i : ℕ) → n < 16 ^ i → i ≤ 32 → n < 2 ^ 128
hex_fit n i below short =
    let most : 16 ^ i ≤ 16 ^ 32 = pow-le-pow_right {n = 16} (omega arith) {i = i} {j = 32} short in
    omega arith

-- whether all are digits, one byte less at a time
pub hex_digits_more : (bs : List ℕ) (i : ℕ) → i < length bs → is_hex_digit (get_or bs i 0) ≡ true
    → list_all is_hex_digit (drop i bs) ≡ list_all is_hex_digit (drop (i + 1) bs)
hex_digits_more bs i l digit = ap (list_all is_hex_digit) (drop-cons bs i 0 l) ∙ (rw digit refl ∙ ap (λ k. list_all is_hex_digit (drop k bs)) (sym (add-one i)))

pub hex_digits_end : (bs : List ℕ) (i : ℕ) → i < length bs → is_hex_digit (get_or bs i 0) ≡ false → list_all is_hex_digit (drop i bs) ≡ false
hex_digits_end bs i l other = ap (list_all is_hex_digit) (drop-cons bs i 0 l) ∙ rw other refl
