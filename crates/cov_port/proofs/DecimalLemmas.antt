-- Decimal digits, one more at a time.
use Rattle.std.proofs.Common.{◌≡◌, ℕ, ◌+◌, ◌-◌, ◌*◌, ◌^◌, ◌<◌, ◌≤◌, List, ◌∷◌, length, drop, get_or, true, false, refl, sym, ◌∙◌, ap, add-one, arith}
use Rattle.std.proofs.Math.Nat.{add-mul, mul_assoc, pow-suc, pow-le-pow_right}
use Rattle.std.proofs.Math.Seq.{drop-cons}
use Rattle.std.specs.List.{list_all}
use Rattle.cov_port.specs.Decimal.{is_digit, value_of}

-- a digit read behind a number counts at its own place
pub digit_more : (v b : ℕ) (bs : List ℕ) → (10 * v + (b - 48)) * 10 ^ length bs + value_of bs ≡ v * 10 ^ length (b ∷ bs) + value_of (b ∷ bs)
digit_more v b bs =
    let place = 10 ^ length bs in
    omega (arith, add-mul (10 * v) (b - 48) place, mul_assoc 10 v place, ap (λ (k : ℕ). v * k) (pow-suc 10 (length bs)), mul_assoc v place 10)

-- one more digit takes at most one more place
pub place_more : (v d i : ℕ) → v < 10 ^ i → d ≤ 9 → 10 * v + d < 10 ^ (i + 1)
place_more v d i below digit = rw add-one (omega (arith, pow-suc 10 i))

-- a number of at most 19 digits fits 64 bits
pub nineteen_fit : (n i : ℕ) → n < 10 ^ i → i ≤ 19 → n < 2 ^ 64
nineteen_fit n i below short =
    let most : 10 ^ i ≤ 10 ^ 19 = pow-le-pow_right {n = 10} (omega arith) {i = i} {j = 19} short in
    omega arith

-- whether all are digits, one byte less at a time
pub digits_more : (bs : List ℕ) (i : ℕ) → i < length bs → is_digit (get_or bs i 0) ≡ true → list_all is_digit (drop i bs) ≡ list_all is_digit (drop (i + 1) bs)
digits_more bs i l digit = ap (list_all is_digit) (drop-cons bs i 0 l) ∙ (rw digit refl ∙ ap (λ k. list_all is_digit (drop k bs)) (sym (add-one i)))

pub digits_end : (bs : List ℕ) (i : ℕ) → i < length bs → is_digit (get_or bs i 0) ≡ false → list_all is_digit (drop i bs) ≡ false
digits_end bs i l other = ap (list_all is_digit) (drop-cons bs i 0 l) ∙ rw other refl
