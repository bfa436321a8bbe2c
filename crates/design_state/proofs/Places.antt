-- Parts at positions, however far outside they lie.
use Rattle.std.proofs.Common.{◌≡◌, ◌∙◌, sym, ap, ℕ, suc, ◌+◌, ◌*◌, ◌%◌, ◌<◌, ◌≤◌, ◌^◌, ◌-◌, zero, subst, add-one, arith}
use Rattle.std.specs.Prelude.{pos, negsuc, ◌-ℤ◌}
use Rattle.std.proofs.lemmas.Int.{ints}
use Rattle.std.proofs.Math.Nat.{zero-mod, pow-succ', pow-le-pow_right}
use Rattle.std.specs.Int.{bit_at}
use Rattle.bit_values.proofs.BitLemmas.{number_of_bits, replaced_are_bits, replaced_bit_inside}
use Rattle.bit_values.specs.Values as value
use Rattle.bit_values.proofs.Widths.{mod_wide}
use Rattle.bit_values.proofs.PartLaws.{select_past_top, select_below, replace_past_top, replace_below}

zero_mod : (w : ℕ) → 0 % 2 ^ w ≡ 0
zero_mod w = zero-mod (2 ^ w)

pub select_past : (w n at : ℕ) → n < 2 ^ 128 → 128 ≤ at → 0 % 2 ^ w ≡ value.select w n (pos at)
select_past w n at h far = zero_mod w ∙ sym (select_past_top 128 w n (pos at) h (grind (arith, ints)))

pub select_before : (w n before : ℕ) → w ≤ 128 → 127 ≤ before → 0 % 2 ^ w ≡ value.select w n (negsuc before)
select_before w n before h far = zero_mod w ∙ sym (select_below w n (negsuc before) (grind (arith, ints)))

pub select_up : (w n before : ℕ) → w ≤ 128 → n * 2 ^ (before + 1) % 2 ^ 128 % 2 ^ w ≡ value.select w n (negsuc before)
select_up w n before h = mod_wide (n * 2 ^ (before + 1)) w h ∙ ap (λ k. n * 2 ^ k % 2 ^ w) (add-one before)

pub replace_past : (w n at k part : ℕ) → n < 2 ^ w → w ≤ at → n ≡ value.replace w n (pos at) k part
replace_past w n at k part h far = sym (replace_past_top w n (pos at) k part h (grind (arith, ints)))

pub replace_before : (w n before k part : ℕ) → n < 2 ^ w → k ≤ 128 → 127 ≤ before → n ≡ value.replace w n (negsuc before) k part
replace_before w n before k part h most far = sym (replace_below w n (negsuc before) k part h (grind (arith, ints)))

-- a part as wide as the word is the word
pub replace_all : (w n part : ℕ) → part < 2 ^ w → part ≡ value.replace w n (pos 0) w part
replace_all w n part h = number_of_bits (value.replaced_bit n (pos 0) w part) w part (replaced_are_bits n (pos 0) w part) h same
  where
    same : (i : ℕ) → i < w → bit_at part i ≡ value.replaced_bit n (pos 0) w part i
    same i lt =
        let at : pos i -ℤ pos 0 ≡ pos i = omega (arith, ints) in
        sym (replaced_bit_inside n (pos 0) w part i (grind (arith, ints)) (grind (arith, ints)) ∙ ap (value.bit_in part) at)

-- a negative value lies at most 2 ^ 127 below 0
pub below_fits : (w n low : ℕ) → 1 ≤ w → w ≤ 128 → 2 ^ (w - 1) ≤ n → low < 2 ^ 32 → value.not w n + low < 2 ^ 128
below_fits zero n low some most h small = absurd (omega (arith, some))
below_fits (suc v) n low some most h small =
    let e : suc v - 1 ≡ v = omega arith in
    let h' : 2 ^ v ≤ n = subst (λ k. 2 ^ k ≤ n) e h in
    let double : 2 ^ suc v ≡ 2 * 2 ^ v = pow-succ' 2 v in
    let bound : 2 ^ v ≤ 2 ^ 127 = pow-le-pow_right {n = 2} (omega arith) {i = v} {j = 127} (omega arith) in
    omega (arith, h', double, bound, small)
