-- The laws on selections and replacements.
use Rattle.std.proofs.Common.{◌≡◌, ℕ, ◌+◌, ◌*◌, ◌%◌, ◌^◌, ◌<◌, refl, sym, ◌∙◌, ap, arith, inl, inr, ℤ, pos, negsuc, ◌+ℤ◌, ◌-ℤ◌, ◌<ℤ◌, ◌≤ℤ◌}
use Rattle.std.proofs.Math.Nat.{div-one, mod-eq_of_lt}
use Rattle.std.proofs.lemmas.Nat.{pow_pos, mod_below, mod_low, shr_high}
use Rattle.std.proofs.lemmas.Nat.Bits.{bit_at-zero, bit_at_above, same_from_bits_below}
use Rattle.std.proofs.lemmas.Bool.{cases_lt}
use Rattle.std.proofs.lemmas.Int.{ints}
use Rattle.std.specs.Int.{bit_at}
use Rattle.bit_values.specs.Values as value
use Rattle.bit_values.specs.Values.{bit_in, replaced_bit}
use Rattle.bit_values.specs.Laws.{ReplaceFits, SelectBits, SelectZeros, SelectPastTop, SelectBelow, SelectConcatHigh, SelectConcatLow, ReplacePartBits}
use Rattle.bit_values.specs.Laws.{ReplaceLowBits, ReplaceHighBits, ReplaceZeros, ReplacePastTop, ReplaceBelow, SelectReplaced, SelectBelowReplaced}
use Rattle.bit_values.specs.Laws.{SelectAboveReplaced}
use Rattle.bit_values.proofs.BitLemmas.{bit_at-mod_above, bit_at-select, number_of_fits, bit_at-number_of, replaced_are_bits, replaced_bit_inside}
use Rattle.bit_values.proofs.BitLemmas.{replaced_bit_before, replaced_bit_after, replace_past, replace_before}

-- ---- select

pub select_bits : SelectBits
select_bits w n low i h = bit_at-select w n low i h

pub select_zeros : SelectZeros
select_zeros w n low i h = bit_at-mod_above (value.moved n low) w i h

select_fits : (w n : ℕ) (low : ℤ) → value.select w n low < 2 ^ w
select_fits w n low = mod_below (value.moved n low) (2 ^ w) (pow_pos w)

-- a selection is known by its bits
selected_is : (w n m : ℕ) (low : ℤ) → m < 2 ^ w → ((i : ℕ) → i < w → bit_in n (low +ℤ pos i) ≡ bit_at m i) → value.select w n low ≡ m
selected_is w n m low f same =
    same_from_bits_below w (value.select w n low) m (select_fits w n low) f (λ i h. bit_at-select w n low i h ∙ same i h)

bit_in_past : (v n : ℕ) (z : ℤ) → n < 2 ^ v → pos v ≤ℤ z → bit_in n z ≡ 0
bit_in_past v n (pos i) f h = bit_at_above n v i f (omega (arith, ints))
bit_in_past v n (negsuc i) f h = absurd (omega (arith, ints))

bit_in_before : (n : ℕ) (z : ℤ) → z <ℤ pos 0 → bit_in n z ≡ 0
bit_in_before n (pos i) h = absurd (omega (arith, ints))
bit_in_before n (negsuc i) h = refl

pub select_past_top : SelectPastTop
select_past_top v w n low f past =
    selected_is w n 0 low (pow_pos w) (λ i h. let out : pos v ≤ℤ (low +ℤ pos i) = omega (arith, ints) in bit_in_past v n (low +ℤ pos i) f out
    ∙ sym (bit_at-zero i))

pub select_below : SelectBelow
select_below w n low before =
    selected_is w n 0 low (pow_pos w) (λ i h. let out : (low +ℤ pos i) <ℤ pos 0 = omega (arith, ints) in bit_in_before n (low +ℤ pos i) out
    ∙ sym (bit_at-zero i))

pub select_concat_high : SelectConcatHigh
select_concat_high v w high low f g = ap (λ n. n % 2 ^ v) (shr_high high w low g) ∙ mod-eq_of_lt f

pub select_concat_low : SelectConcatLow
select_concat_low w high low g = ap (λ n. n % 2 ^ w) (div-one (high * 2 ^ w + low)) ∙ mod_low high w low g

-- ---- replace

pub replace_fits : ReplaceFits
replace_fits w n low k part = number_of_fits (replaced_bit n low k part) w (replaced_are_bits n low k part)

bit_at-replace : (w n : ℕ) (low : ℤ) (k part i : ℕ) → i < w → bit_at (value.replace w n low k part) i ≡ replaced_bit n low k part i
bit_at-replace w n low k part i h = bit_at-number_of (replaced_bit n low k part) w i (replaced_are_bits n low k part) h

pub replace_part_bits : ReplacePartBits
replace_part_bits w n low k part i h above below = bit_at-replace w n low k part i h ∙ replaced_bit_inside n low k part i above below

pub replace_low_bits : ReplaceLowBits
replace_low_bits w n low k part i h before = bit_at-replace w n low k part i h ∙ replaced_bit_before n low k part i before

pub replace_high_bits : ReplaceHighBits
replace_high_bits w n low k part i h after = bit_at-replace w n low k part i h ∙ replaced_bit_after n low k part i after

pub replace_zeros : ReplaceZeros
replace_zeros w n low k part i h = bit_at_above (value.replace w n low k part) w i (replace_fits w n low k part) h

pub replace_past_top : ReplacePastTop
replace_past_top w n low k part f past = replace_past w n low k part f past

pub replace_below : ReplaceBelow
replace_below w n low k part f before = replace_before w n low k part f before

pub select_replaced : SelectReplaced
select_replaced w n low k part within fits =
    selected_is k (value.replace w n (pos low) k part) part (pos low) fits
    (λ i h.
    let inside : low + i < w = omega arith in
    let above : pos low ≤ℤ pos (low + i) = omega (arith, ints) in
    let below : pos (low + i) <ℤ (pos low +ℤ pos k) = omega (arith, ints) in
    let back : pos (low + i) -ℤ pos low ≡ pos i = omega (arith, ints) in
    replace_part_bits w n (pos low) k part (low + i) inside above below ∙ ap (bit_in part) back)

-- away from the part, also outside the number, the bits are the old ones
old_bit_before : (w n : ℕ) (low : ℤ) (k part : ℕ) (z : ℤ) → n < 2 ^ w → z <ℤ low → bit_in (value.replace w n low k part) z ≡ bit_in n z
old_bit_before w n low k part (negsuc i) f before = refl
old_bit_before w n low k part (pos i) f before =
    elim (cases_lt i w) [
      | inl h ↦ replace_low_bits w n low k part i h before
      | inr h ↦ replace_zeros w n low k part i h ∙ sym (bit_at_above n w i f h)
    ]

old_bit_after : (w n : ℕ) (low : ℤ) (k part : ℕ) (z : ℤ) → n < 2 ^ w → (low +ℤ pos k) ≤ℤ z → bit_in (value.replace w n low k part) z ≡ bit_in n z
old_bit_after w n low k part (negsuc i) f after = refl
old_bit_after w n low k part (pos i) f after =
    elim (cases_lt i w) [
      | inl h ↦ replace_high_bits w n low k part i h after
      | inr h ↦ replace_zeros w n low k part i h ∙ sym (bit_at_above n w i f h)
    ]

pub select_below_replaced : SelectBelowReplaced
select_below_replaced w n low k part v from f before =
    selected_is v (value.replace w n low k part) (value.select v n from) from (select_fits v n from)
    (λ i h. let out : (from +ℤ pos i) <ℤ low = omega (arith, ints) in old_bit_before w n low k part (from +ℤ pos i) f out ∙ sym (bit_at-select v n from i h))

pub select_above_replaced : SelectAboveReplaced
select_above_replaced w n low k part v from f after =
    selected_is v (value.replace w n low k part) (value.select v n from) from (select_fits v n from)
    (λ i h. let out : (low +ℤ pos k) ≤ℤ (from +ℤ pos i) = omega (arith, ints) in old_bit_after w n low k part (from +ℤ pos i) f out
    ∙ sym (bit_at-select v n from i h))
