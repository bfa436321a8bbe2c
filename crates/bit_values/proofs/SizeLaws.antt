-- The laws on sizes, shifts and negation.
use Rattle.std.proofs.Common.{◌≡◌, ℕ, zero, suc, ◌+◌, ◌-◌, ◌*◌, ◌/◌, ◌%◌, ◌^◌, ◌<◌, ◌≤◌, refl, sym, ◌∙◌, ap, subst, arith, inl, inr, true, false, pos, negsuc}
use Rattle.std.proofs.Math.Nat.{mod-eq_of_lt}
use Rattle.std.proofs.lemmas.Nat.{pow_pos, pow-add, mod_below, mod_low, shr_le, div-mul-add}
use Rattle.std.proofs.lemmas.Nat.Bits.{bit_at-suc, bit_at_lowest, bit_at-lt, bit_at_above, bit_at_cat_low, bit_at_cat_high, bit_at_ones}
use Rattle.std.proofs.lemmas.Bool.{cases_lt}
use Rattle.std.specs.Int.{bit_at, int_div_euclid}
use Rattle.bit_values.specs.Values as value
use Rattle.bit_values.specs.Laws.{ModuloFits, ExtendFits, ConcatFits, ExtendKeepsSigned, TruncateUndoesExtend, ExtendBits, ExtendZeros, ExtendSigns}
use Rattle.bit_values.specs.Laws.{TruncateBits, TruncateZeros, ConcatLowBits, ConcatHighBits, NotBits, ShlZeros, ShlBits, ShrBits, SarBits, SarSigns}
use Rattle.bit_values.proofs.Widths.{signed_high, signed_low, wider, sar_high}
use Rattle.bit_values.proofs.BitLemmas.{bit_at-mod, bit_at-mod_above, bit_at-shr, bit_at-shl_low, bit_at-shl_high, concat_fits}

-- ---- results are values of their width

pub modulo_fits : ModuloFits
modulo_fits w (pos n) = mod_below n (2 ^ w) (pow_pos w)
modulo_fits w (negsuc n) = omega (arith, pow_pos w)

pub extend_fits : ExtendFits
extend_fits v w n true within f = modulo_fits w (value.signed v n)
extend_fits v w n false within f = wider n v w f within

pub concat_fit : ConcatFits
concat_fit v w high low f g = concat_fits high low v w f g

-- ---- extension

half : (w : ℕ) → 1 ≤ w → 2 ^ w ≡ 2 ^ (w - 1) + 2 ^ (w - 1)
half w h =
    let e : (w - 1) + 1 ≡ w = omega arith in
    let P : ℕ → Type 0 = λ m. 2 ^ m ≡ 2 ^ (w - 1) + 2 ^ (w - 1) in
    subst P e (pow-add 2 (w - 1) 1 ∙ omega arith)

extended_low : (v w n : ℕ) → n < 2 ^ (v - 1) → v ≤ w → value.extend v w true n ≡ n
extended_low v w n h within =
    let narrow : v - 1 ≤ w = omega arith in
    ap (value.modulo w) (signed_low v n h) ∙ mod-eq_of_lt (wider n (v - 1) w h narrow)

ones_above : (a b n : ℕ) → zero < a → n < b → a * b - 1 - (b - suc n) ≡ (a - 1) * b + n
ones_above zero b n p f = absurd (omega arith)
ones_above (suc a) b n p f = let z : suc a - 1 ≡ a = omega arith in rw z (omega arith)

-- ones above the bits
extended_high : (v w n : ℕ) → n < 2 ^ v → 2 ^ (v - 1) ≤ n → v ≤ w → value.extend v w true n ≡ (2 ^ (w - v) - 1) * 2 ^ v + n
extended_high v w n f h within =
    let small : 2 ^ v - suc n < 2 ^ v = omega (arith, pow_pos v) in
    let whole : (w - v) + v ≡ w = omega arith in
    let P : ℕ → Type 0 = λ m. 2 ^ m ≡ 2 ^ (w - v) * 2 ^ v in
    let parts : 2 ^ w ≡ 2 ^ (w - v) * 2 ^ v = subst P whole (pow-add 2 (w - v) v) in
    ap (value.modulo w) (signed_high v n f h)
    ∙ ap (λ k. 2 ^ w - 1 - k) (mod-eq_of_lt (wider (2 ^ v - suc n) v w small within))
    ∙ ap (λ m. m - 1 - (2 ^ v - suc n)) parts
    ∙ ones_above (2 ^ (w - v)) (2 ^ v) n (pow_pos (w - v)) f

pub extend_keeps_signed : ExtendKeepsSigned
extend_keeps_signed v w n some within f =
    let wide : 2 ^ w ≡ 2 ^ (w - 1) + 2 ^ (w - 1) = half w (omega arith) in
    let narrow : 2 ^ v ≡ 2 ^ (v - 1) + 2 ^ (v - 1) = half v some in
    let tops : v - 1 ≤ w - 1 = omega arith in
    elim (cases_lt n (2 ^ (v - 1))) [
      | inl h ↦ ap (value.signed w) (extended_low v w n h within) ∙ signed_low w n (wider n (v - 1) (w - 1) h tops) ∙ sym (signed_low v n h)
      | inr h ↦ (
          let small : 2 ^ v - suc n < 2 ^ (v - 1) = omega (arith, pow_pos (v - 1)) in
          let short : 2 ^ v - suc n < 2 ^ (w - 1) = wider (2 ^ v - suc n) (v - 1) (w - 1) small tops in
          let fits : 2 ^ w - 1 - (2 ^ v - suc n) < 2 ^ w = omega (arith, pow_pos w) in
          let top : 2 ^ (w - 1) ≤ 2 ^ w - 1 - (2 ^ v - suc n) = omega arith in
          let back : 2 ^ w - suc (2 ^ w - 1 - (2 ^ v - suc n)) ≡ 2 ^ v - suc n = omega arith in
          let less : 2 ^ v - suc n < 2 ^ w = omega arith in
          ap (value.signed w) (ap (value.modulo w) (signed_high v n f h) ∙ ap (λ m. 2 ^ w - 1 - m) (mod-eq_of_lt less))
          ∙ signed_high w (2 ^ w - 1 - (2 ^ v - suc n)) fits top
          ∙ ap negsuc back
          ∙ sym (signed_high v n f h))
    ]

pub truncate_undoes_extend : TruncateUndoesExtend
truncate_undoes_extend v w n false within f = mod-eq_of_lt f
truncate_undoes_extend v w n true within f =
    elim (cases_lt n (2 ^ (v - 1))) [
      | inl h ↦ ap (value.truncate v) (extended_low v w n h within) ∙ mod-eq_of_lt f
      | inr h ↦ ap (value.truncate v) (extended_high v w n f h within) ∙ mod_low (2 ^ (w - v) - 1) v n f
    ]

pub extend_bits : ExtendBits
extend_bits v w n i false within f h = refl
extend_bits v w n i true within f h =
    elim (cases_lt n (2 ^ (v - 1))) [
      | inl low ↦ ap (λ m. bit_at m i) (extended_low v w n low within)
      | inr high ↦ ap (λ m. bit_at m i) (extended_high v w n f high within) ∙ bit_at_cat_low (2 ^ (w - v) - 1) v n i h
    ]

pub extend_zeros : ExtendZeros
extend_zeros v w n i f h = bit_at_above n v i f h

top_bit_one : (v n : ℕ) → 1 ≤ v → n < 2 ^ v → 2 ^ (v - 1) ≤ n → bit_at n (v - 1) ≡ 1
top_bit_one v n some f h =
    let narrow : 2 ^ v ≡ 2 ^ (v - 1) + 2 ^ (v - 1) = half v some in
    let rest : n - 2 ^ (v - 1) < 2 ^ (v - 1) = omega arith in
    let whole : n ≡ 1 * 2 ^ (v - 1) + (n - 2 ^ (v - 1)) = omega arith in
    ap (λ m. m / 2 ^ (v - 1) % 2) whole ∙ ap (λ m. m % 2) (div-mul-add 1 (2 ^ (v - 1)) (n - 2 ^ (v - 1)) rest)

top_bit_zero : (v n : ℕ) → n < 2 ^ (v - 1) → bit_at n (v - 1) ≡ 0
top_bit_zero v n h = bit_at_above n (v - 1) (v - 1) h (omega arith)

pub extend_signs : ExtendSigns
extend_signs v w n i some within f above below =
    elim (cases_lt n (2 ^ (v - 1))) [
      | inl low ↦ ap (λ m. bit_at m i) (extended_low v w n low within) ∙ bit_at_above n v i f above ∙ sym (top_bit_zero v n low)
      | inr high ↦ (
          let inside : i - v < w - v = omega arith in
          ap (λ m. bit_at m i) (extended_high v w n f high within)
          ∙ bit_at_cat_high (2 ^ (w - v) - 1) v n i f above
          ∙ bit_at_ones (w - v) (i - v) inside
          ∙ sym (top_bit_one v n some f high))
    ]

-- ---- truncation and concatenation

pub truncate_bits : TruncateBits
truncate_bits w n i h = bit_at-mod n w i h

pub truncate_zeros : TruncateZeros
truncate_zeros w n i h = bit_at-mod_above n w i h

pub concat_low_bits : ConcatLowBits
concat_low_bits w high low i h = bit_at_cat_low high w low i h

pub concat_high_bits : ConcatHighBits
concat_high_bits w high low i f h = bit_at_cat_high high w low i f h

-- ---- negation and shifts

pub not_bits : NotBits
not_bits zero n i f h = absurd (omega arith)
not_bits (suc w) n zero f h =
    let odd : (2 ^ suc w - 1 - n) % 2 ≡ 1 - n % 2 = omega arith in
    bit_at_lowest (2 ^ suc w - 1 - n) ∙ odd ∙ sym (ap (λ b. 1 - b) (bit_at_lowest n))
not_bits (suc w) n (suc i) f h =
    let halved : (2 ^ suc w - 1 - n) / 2 ≡ 2 ^ w - 1 - n / 2 = omega arith in
    let fits : n / 2 < 2 ^ w = omega arith in
    let below : i < w = omega arith in
    bit_at-suc (2 ^ suc w - 1 - n) i
    ∙ ap (λ m. bit_at m i) halved
    ∙ not_bits w (n / 2) i fits below
    ∙ sym (ap (λ b. 1 - b) (bit_at-suc n i))

pub shl_zeros : ShlZeros
shl_zeros w n by i h =
    elim (cases_lt i w) [
      | inl below ↦ bit_at-mod (n * 2 ^ by) w i below ∙ bit_at-shl_low n by i h
      | inr above ↦ bit_at-mod_above (n * 2 ^ by) w i above
    ]

pub shl_bits : ShlBits
shl_bits w n by i below h = bit_at-mod (n * 2 ^ by) w i below ∙ bit_at-shl_high n by i h

pub shr_bits : ShrBits
shr_bits n by i = let e : by + i ≡ i + by = omega arith in bit_at-shr n by i ∙ ap (bit_at n) e

shifted_low : (w n by : ℕ) → n < 2 ^ w → n < 2 ^ (w - 1) → value.sar w n by ≡ n / 2 ^ by
shifted_low w n by f h =
    let fits : n / 2 ^ by < 2 ^ w = omega (arith, shr_le n by) in
    ap (λ z. value.modulo w (int_div_euclid z (pos (2 ^ by)))) (signed_low w n h) ∙ mod-eq_of_lt fits

-- the turned bits of a value with its top bit set, shifted and turned again
shifted_high_bit : (w n by i : ℕ) → n < 2 ^ w → 2 ^ (w - 1) ≤ n → i < w → bit_at (value.sar w n by) i ≡ 1 - bit_at (value.not w n) (i + by)
shifted_high_bit w n by i f h below =
    let fits : (2 ^ w - 1 - n) / 2 ^ by < 2 ^ w = omega (arith, shr_le (2 ^ w - 1 - n) by, pow_pos w) in
    sym (ap (λ m. bit_at m i) (sar_high w n by f h))
    ∙ not_bits w ((2 ^ w - 1 - n) / 2 ^ by) i fits below
    ∙ ap (λ b. 1 - b) (shr_bits (2 ^ w - 1 - n) by i)

twice_turned : (b : ℕ) → b < 2 → 1 - (1 - b) ≡ b
twice_turned b h = omega arith

pub sar_bits : SarBits
sar_bits w n by i f h =
    elim (cases_lt n (2 ^ (w - 1))) [
      | inl low ↦ ap (λ m. bit_at m i) (shifted_low w n by f low) ∙ shr_bits n by i
      | inr high ↦ (
          let below : i < w = omega arith in
          let bit : bit_at n (i + by) < 2 = bit_at-lt n (i + by) in
          shifted_high_bit w n by i f high below ∙ ap (λ b. 1 - b) (not_bits w n (i + by) f h) ∙ twice_turned (bit_at n (i + by)) bit)
    ]

pub sar_signs : SarSigns
sar_signs w n by i f below h =
    elim (cases_lt n (2 ^ (w - 1))) [
      | inl low ↦ ap (λ m. bit_at m i) (shifted_low w n by f low) ∙ shr_bits n by i ∙ bit_at_above n w (i + by) f h ∙ sym (top_bit_zero w n low)
      | inr high ↦ (
          let some : 1 ≤ w = omega arith in
          let fits : 2 ^ w - 1 - n < 2 ^ w = omega (arith, pow_pos w) in
          shifted_high_bit w n by i f high below ∙ ap (λ b. 1 - b) (bit_at_above (2 ^ w - 1 - n) w (i + by) fits h) ∙ sym (top_bit_one w n some f high))
    ]
