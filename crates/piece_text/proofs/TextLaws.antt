-- Values in decimal, and how long texts are.
use Rattle.std.proofs.Common.{◌≡◌, ◌∙◌, ap, sym, subst, refl, ℕ, zero, suc, ◌+◌, ◌-◌, ◌*◌, ◌/◌, ◌%◌, ◌^◌, ◌<◌, ◌≤◌, ◌==◌, Bool, true, false, List, [], ◌∷◌}
use Rattle.std.proofs.Common.{length, replicate, pow_pos, inl, inr, arith}
use Rattle.std.specs.Prelude.{negsuc, if◌then◌else◌, unsigned_abs}
use Rattle.std.proofs.lemmas.Bool.{cases_lt}
use Rattle.std.proofs.lemmas.List.{length-append, length-replicate}
use Rattle.std.proofs.Math.Nat.{pow-succ', pow-suc, pow-le-pow_right, mod-eq_of_lt, lt-div-mul-add, div-mul-le_self}
use Rattle.std.proofs.lemmas.Nat.{pow-add}
use Rattle.bit_values.specs.Values as value
use Rattle.bit_values.proofs.Widths.{signed_high, signed_low, neg_high}
use Rattle.circuit_run.specs.Digits.{digits, trimmed, decimal_text, integer_text, to_the_right, hex_columns}
use Rattle.piece_text.specs.DigitCounts.{IsDigitCount, decimal_of, value_text, columns_for}
use Rattle.piece_text.proofs.DigitLaws.{trimmed_is, length_trimmed, power_grows}

-- ---- the opaque words

pub decimal_is : (n count : ℕ) → IsDigitCount 10 39 n count → decimal_of n ≡ digits 10 count n
unfolding decimal_of
decimal_is n count h = trimmed_is 10 39 n count (omega arith) h

pub length_decimal : (n count : ℕ) → IsDigitCount 10 39 n count → count ≡ length (decimal_of n)
unfolding decimal_of
length_decimal n count h = length_trimmed 10 39 n count (omega arith) h

pub unsigned_text : (w n : ℕ) → value_text false w n ≡ decimal_of n
unfolding value_text decimal_of
unsigned_text w n = refl

pub positive_text : (w n : ℕ) → n < 2 ^ (w - 1) → value_text true w n ≡ decimal_of n
unfolding value_text decimal_of
positive_text w n h = ap integer_text (signed_low w n h)

pub negative_text : (w n : ℕ) → 1 ≤ w → n < 2 ^ w → 2 ^ (w - 1) ≤ n → value_text true w n ≡ 45 ∷ decimal_of (value.neg w n)
unfolding value_text decimal_of
negative_text w n some h high =
    let s : value.signed w n ≡ negsuc (2 ^ w - suc n) = signed_high w n h high in
    ap integer_text s ∙ ap (λ m. 45 ∷ decimal_text m) (sym (neg_high w n h high ∙ ap unsigned_abs s))

pub signed_columns : (w : ℕ) → columns_for true w ≡ 1 + length (decimal_of (2 ^ (w - 1)))
unfolding columns_for decimal_of
signed_columns w = refl

pub unsigned_columns : (w : ℕ) → columns_for false w ≡ length (decimal_of (2 ^ w - 1))
unfolding columns_for decimal_of
unsigned_columns w = refl

-- ---- lengths

has_count : (base most n : ℕ) → n < base ^ suc most → (k : ℕ) × IsDigitCount base (suc most) n k
has_count base zero n h = (1, record { some = omega arith; few = omega arith; hold = h; least = inl refl })
has_count base (suc most) n h = elim (cases_lt n (base ^ suc most)) [
  | inl lt ↦ let c : (k : ℕ) × IsDigitCount base (suc most) n k = has_count base most n lt in
      (c.0, record { some = c.1.some; few = omega (arith, c.1.few); hold = c.1.hold; least = c.1.least })
  | inr ge ↦
      let e : suc most ≡ suc (suc most) - 1 = omega arith in
      (suc (suc most), record { some = omega arith; few = omega arith; hold = h; least = inr (subst (λ k. base ^ k ≤ n) e ge) })
]

counts_grow : (base most n m j k : ℕ) → 2 ≤ base → n ≤ m → IsDigitCount base most n j → IsDigitCount base most m k → j ≤ k
counts_grow base most n m j k two le a b = elim (cases_lt k j) [
  | inr ok ↦ ok
  | inl lt ↦ elim a.least [
    | inl one ↦ absurd (omega (arith, one, lt, b.some))
    | inr big ↦ absurd (omega (arith, big, le, b.hold, power_grows base k (j - 1) two (omega (arith, lt))))
  ]
]

small_enough : (n : ℕ) → n < 2 ^ 128 → n < 10 ^ suc 38
small_enough n h = omega (arith, h)

pub decimals_grow : (n m : ℕ) → n ≤ m → m < 2 ^ 128 → length (decimal_of n) ≤ length (decimal_of m)
decimals_grow n m le h =
    let a : (k : ℕ) × IsDigitCount 10 39 n k = has_count 10 38 n (small_enough n (omega (arith, le, h))) in
    let b : (k : ℕ) × IsDigitCount 10 39 m k = has_count 10 38 m (small_enough m h) in
    subst (λ x. x ≤ length (decimal_of m)) (length_decimal n a.0 a.1)
    (subst (λ y. a.0 ≤ y) (length_decimal m b.0 b.1) (counts_grow 10 39 n m a.0 b.0 (omega arith) le a.1 b.1))

pub wide : (w : ℕ) → w ≤ 128 → 2 ^ w ≤ 2 ^ 128
wide w h = pow-le-pow_right {n = 2} (omega arith) {i = w} {j = 128} h

half : (w : ℕ) → 1 ≤ w → 2 ^ w ≡ 2 * 2 ^ (w - 1)
half zero h = absurd (omega (arith, h))
half (suc v) h = let e : suc v - 1 ≡ v = omega arith in pow-succ' 2 v ∙ ap (λ k. 2 * 2 ^ k) (sym e)

-- a value's text is no longer than the columns of its width
pub text_fits : (is_signed : Bool) (w n : ℕ) → 1 ≤ w → w ≤ 128 → n < 2 ^ w → length (value_text is_signed w n) ≤ columns_for is_signed w
text_fits false w n some most h = rw (unsigned_text w n, unsigned_columns w)
    (decimals_grow n (2 ^ w - 1) (omega (arith, h)) (omega (arith, wide w most, pow_pos w)))
text_fits true w n some most h = elim (cases_lt n (2 ^ (w - 1))) [
  | inl low ↦ rw (positive_text w n low, signed_columns w)
      (omega (arith, decimals_grow n (2 ^ (w - 1)) (omega (arith, low)) (omega (arith, half w some, wide w most, pow_pos (w - 1)))))
  | inr high ↦
      let s : value.signed w n ≡ negsuc (2 ^ w - suc n) = signed_high w n h high in
      let m : value.neg w n ≡ suc (2 ^ w - suc n) = neg_high w n h high ∙ ap unsigned_abs s in
      let le : value.neg w n ≤ 2 ^ (w - 1) = omega (arith, m, half w some, high, h) in
      rw (negative_text w n some h high, signed_columns w)
      (omega (arith, decimals_grow (value.neg w n) (2 ^ (w - 1)) le (omega (arith, half w some, wide w most, pow_pos (w - 1)))))
]

pub trimmed_fits : (xs : List ℕ) → length (trimmed xs) ≤ length xs
trimmed_fits [] = omega arith
trimmed_fits (x ∷ []) = omega arith
trimmed_fits (x ∷ y ∷ ys) = pick (x == 48) (trimmed_fits (y ∷ ys))
  where
    pick : (c : Bool) → length (trimmed (y ∷ ys)) ≤ length (y ∷ ys) → length (if c then trimmed (y ∷ ys) else x ∷ y ∷ ys) ≤ length (x ∷ y ∷ ys)
    pick true h = omega (arith, h)
    pick false h = omega arith

pub right_length : (columns : ℕ) (text : List ℕ) → length text ≤ columns → length (to_the_right columns text) ≡ columns
right_length columns text h = length-append (replicate (columns - length text) 32) text ∙ omega (arith, h, length-replicate {A = ℕ} (columns - length text) 32)

-- 2 to a width below 128, as a shift computes it
pub one_shifted : (w : ℕ) → 1 ≤ w → w ≤ 128 → 1 * 2 ^ (w - 1) % 2 ^ 128 ≡ 2 ^ (w - 1)
one_shifted w some most =
    let le : 2 ^ (w - 1) ≤ 2 ^ 127 = pow-le-pow_right {n = 2} (omega arith) {i = w - 1} {j = 127} (omega arith) in
    let e : 1 * 2 ^ (w - 1) ≡ 2 ^ (w - 1) = omega arith in
    ap (λ m. m % 2 ^ 128) e ∙ mod-eq_of_lt (omega (arith, le))

-- ---- hexadecimal

sixteen : (k : ℕ) → 16 ^ k ≡ 2 ^ (4 * k)
sixteen zero = refl
sixteen (suc k) =
    let e : 4 * k + 4 ≡ 4 * suc k = omega arith in
    pow-suc 16 k ∙ ap (λ m. m * 16) (sixteen k) ∙ sym (pow-add 2 (4 * k) 4) ∙ ap (λ m. 2 ^ m) e

pub hex_bounds : (w : ℕ) → 1 ≤ w → w ≤ 128 → (1 ≤ hex_columns w) × (hex_columns w ≤ 32) × (w ≤ 4 * hex_columns w)
hex_bounds w some most =
    let up : w + 3 < (w + 3) / 4 * 4 + 4 = lt-div-mul-add {a = w + 3} {b = 4} (omega arith) in
    let down : (w + 3) / 4 * 4 ≤ w + 3 = div-mul-le_self (w + 3) 4 in
    (omega (arith, up, down, some), omega (arith, up, down, most), omega (arith, up, down))

pub hex_holds : (w n : ℕ) → 1 ≤ w → w ≤ 128 → n < 2 ^ w → n < 16 ^ hex_columns w
hex_holds w n some most h =
    omega (arith, h, sixteen (hex_columns w), pow-le-pow_right {n = 2} (omega arith) {i = w} {j = 4 * hex_columns w} (hex_bounds w some most).2)

pub hex_power : (k : ℕ) → k ≤ 32 → 16 ^ (k - 1) < 2 ^ 128
hex_power k h = omega (arith, power_grows 16 (k - 1) 31 (omega arith) (omega (arith, h)))

pub two_power : (w : ℕ) → 1 ≤ w → w ≤ 128 → 2 ^ (w - 1) < 2 ^ 128
two_power w some h = omega (arith, power_grows 2 (w - 1) 127 (omega arith) (omega (arith, h)))
