-- Laws of single bits: of sums, parts and moved numbers, and of a number made from its bits.
use Rattle.std.proofs.Common.{◌≡◌, ℕ, zero, suc, ◌+◌, ◌-◌, ◌*◌, ◌/◌, ◌%◌, ◌^◌, ◌<◌, ◌≤◌, refl, sym, ◌∙◌, ap, arith, bit_and, bit_or, max, add-zero, inl, inr, ℤ}
use Rattle.std.proofs.Common.{pos, negsuc, ◌+ℤ◌, ◌-ℤ◌, ◌<ℤ◌, ◌≤ℤ◌}
use Rattle.std.proofs.Math.Nat.{div-one, mod-eq_of_lt, zero-mul, zero-mod}
use Rattle.std.proofs.lemmas.Nat.{pow_pos, pow-add, mod_below, shr-shr, shr_split, and_mask, one_shl, shl_whole, or_shifted, mul-add-lt}
use Rattle.std.proofs.lemmas.Nat.Bits.{bit_at-zero, bit_at-lt, bit_at_above, bit_at_cat_low, bit_at_cat_high, bit_at_or, same_from_bits_below}
use Rattle.std.proofs.lemmas.Bool.{cases_lt}
use Rattle.std.proofs.lemmas.Int.{ints, by_lt_z}
use Rattle.std.specs.Prelude.{unsigned_abs}
use Rattle.std.specs.Int.{bit_at}
use Rattle.bit_values.specs.Values as value
use Rattle.bit_values.specs.Values.{number_of, bit_in, replaced_bit}
use Rattle.bit_values.proofs.Widths.{mod_wide, shl_out, shr_out}

-- ---- bits of parts and of moved numbers

pub bit_at-mod : (n w i : ℕ) → i < w → bit_at (n % 2 ^ w) i ≡ bit_at n i
bit_at-mod n w i h = sym (bit_at_cat_low (n / 2 ^ w) w (n % 2 ^ w) i h) ∙ ap (λ k. bit_at k i) (shr_split n w)

pub bit_at-mod_above : (n w i : ℕ) → w ≤ i → bit_at (n % 2 ^ w) i ≡ 0
bit_at-mod_above n w i h = bit_at_above (n % 2 ^ w) w i (mod_below n (2 ^ w) (pow_pos w)) h

pub bit_at-shr : (n k i : ℕ) → bit_at (n / 2 ^ k) i ≡ bit_at n (k + i)
bit_at-shr n k i = ap (λ m. m % 2) (shr-shr n k i)

pub bit_at-shl_low : (n k i : ℕ) → i < k → bit_at (n * 2 ^ k) i ≡ 0
bit_at-shl_low n k i h = sym (ap (λ m. bit_at m i) (add-zero (n * 2 ^ k))) ∙ bit_at_cat_low n k 0 i h ∙ bit_at-zero i

pub bit_at-shl_high : (n k i : ℕ) → k ≤ i → bit_at (n * 2 ^ k) i ≡ bit_at n (i - k)
bit_at-shl_high n k i h = sym (ap (λ m. bit_at m i) (add-zero (n * 2 ^ k))) ∙ bit_at_cat_high n k 0 i (pow_pos k) h

pub bit_at-moved : (n : ℕ) (low : ℤ) (i : ℕ) → bit_at (value.moved n low) i ≡ bit_in n (low +ℤ pos i)
bit_at-moved n (pos k) i = bit_at-shr n k i
bit_at-moved n (negsuc k) i =
    elim (cases_lt i (suc k)) [
      | inl h ↦ (let e : negsuc k +ℤ pos i ≡ negsuc (k - i) = omega (arith, ints) in bit_at-shl_low n (suc k) i h ∙ sym (ap (bit_in n) e))
      | inr h ↦ (let e : negsuc k +ℤ pos i ≡ pos (i - suc k) = omega (arith, ints) in bit_at-shl_high n (suc k) i h ∙ sym (ap (bit_in n) e))
    ]

pub bit_at-select : (w n : ℕ) (low : ℤ) (i : ℕ) → i < w → bit_at (value.select w n low) i ≡ bit_in n (low +ℤ pos i)
bit_at-select w n low i h = bit_at-mod (value.moved n low) w i h ∙ bit_at-moved n low i

-- ---- select, from a distance

pub select_down : (w n : ℕ) (low : ℤ) (by : ℕ) → pos 0 ≤ℤ low → by ≡ unsigned_abs low → n / 2 ^ by % 2 ^ w ≡ value.select w n low
select_down w n (pos k) by h e = ap (λ m. n / 2 ^ m % 2 ^ w) e
select_down w n (negsuc k) by h e = absurd (omega (arith, ints))

pub select_up : (w n : ℕ) (low : ℤ) (by : ℕ) → w ≤ 128 → low <ℤ pos 0 → by ≡ unsigned_abs low → n * 2 ^ by % 2 ^ 128 % 2 ^ w ≡ value.select w n low
select_up w n (pos k) by m h e = absurd (omega (arith, ints))
select_up w n (negsuc k) by m h e = mod_wide (n * 2 ^ by) w m ∙ ap (λ d. n * 2 ^ d % 2 ^ w) e

pub select_far : (v w n : ℕ) (low : ℤ) → n < 2 ^ v → v ≤ unsigned_abs low → w ≤ unsigned_abs low → value.select w n low ≡ 0
select_far v w n (pos k) f g h = ap (λ m. m % 2 ^ w) (shr_out n k v f g) ∙ zero-mod (2 ^ w)
select_far v w n (negsuc k) f g h = shl_out n (suc k) w h

-- ---- a number made from its bits

-- each is 0 or 1
abbrev pub AreBits : (ℕ → ℕ) → Type 0
AreBits bit = (i : ℕ) → bit i < 2

pub number_of_fits : (bit : ℕ → ℕ) (w : ℕ) → AreBits bit → number_of bit w < 2 ^ w
unfolding number_of
number_of_fits bit zero are = omega arith
number_of_fits bit (suc w) are =
    let low = number_of_fits bit w are in
    let top : bit w < 2 = are w in
    let joined : bit w * 2 ^ w + number_of bit w < 2 ^ w * 2 = mul-add-lt (bit w) (2 ^ w) (number_of bit w) 2 top low in
    let twice : 2 ^ suc w ≡ 2 ^ w * 2 = omega arith in
    rw twice (omega arith)

pub bit_at-number_of : (bit : ℕ → ℕ) (w i : ℕ) → AreBits bit → i < w → bit_at (number_of bit w) i ≡ bit i
unfolding number_of
bit_at-number_of bit zero i are h = absurd (omega arith)
bit_at-number_of bit (suc w) i are h =
    let swapped : number_of bit w + bit w * 2 ^ w ≡ bit w * 2 ^ w + number_of bit w = omega arith in
    ap (λ n. bit_at n i) swapped ∙
    elim (cases_lt i w) [
      | inl below ↦ bit_at_cat_low (bit w) w (number_of bit w) i below ∙ bit_at-number_of bit w i are below
      | inr above ↦ (
          let top : i ≡ w = omega arith in
          let none : i - w ≡ 0 = omega arith in
          bit_at_cat_high (bit w) w (number_of bit w) i (number_of_fits bit w are) above
          ∙ ap (bit_at (bit w)) none
          ∙ ap (λ n. n % 2) (div-one (bit w))
          ∙ mod-eq_of_lt (are w)
          ∙ ap bit (sym top))
    ]

-- a number of w bits is made from its bits
pub number_of_bits : (bit : ℕ → ℕ) (w n : ℕ) → AreBits bit → n < 2 ^ w → ((i : ℕ) → i < w → bit_at n i ≡ bit i) → n ≡ number_of bit w
number_of_bits bit w n are f same =
    same_from_bits_below w n (number_of bit w) f (number_of_fits bit w are) (λ i h. same i h ∙ sym (bit_at-number_of bit w i are h))

-- ---- replace

pub replaced_bit_inside : (n : ℕ) (low : ℤ) (k part i : ℕ) → low ≤ℤ pos i → pos i <ℤ (low +ℤ pos k) → replaced_bit n low k part i ≡ bit_in part (pos i -ℤ low)
replaced_bit_inside n low k part i g h = grind (arith, ints)

pub replaced_bit_before : (n : ℕ) (low : ℤ) (k part i : ℕ) → pos i <ℤ low → replaced_bit n low k part i ≡ bit_at n i
replaced_bit_before n low k part i h = grind (arith, ints)

pub replaced_bit_after : (n : ℕ) (low : ℤ) (k part i : ℕ) → (low +ℤ pos k) ≤ℤ pos i → replaced_bit n low k part i ≡ bit_at n i
replaced_bit_after n low k part i h = grind (arith, ints)

bit_in-lt : (n : ℕ) (z : ℤ) → bit_in n z < 2
bit_in-lt n (pos i) = bit_at-lt n i
bit_in-lt n (negsuc i) = omega arith

pub replaced_are_bits : (n : ℕ) (low : ℤ) (k part : ℕ) → AreBits (replaced_bit n low k part)
replaced_are_bits n low k part i =
    by_lt_z (pos i) low
    (λ h. rw (replaced_bit_before n low k part i h) (bit_at-lt n i))
    (λ g. by_lt_z (pos i) (low +ℤ pos k)
    (λ h. rw (replaced_bit_inside n low k part i g h) (bit_in-lt part (pos i -ℤ low)))
    (λ h. rw (replaced_bit_after n low k part i h) (bit_at-lt n i)))

-- a number with the old bits everywhere is the old number
pub replace_none : (w n : ℕ) (low : ℤ) (k part : ℕ) → n < 2 ^ w → ((i : ℕ) → i < w → replaced_bit n low k part i ≡ bit_at n i)
    → value.replace w n low k part ≡ n
replace_none w n low k part f same =
    sym (number_of_bits (replaced_bit n low k part) w n (replaced_are_bits n low k part) f (λ i h. sym (same i h)))

pub replace_past : (w n : ℕ) (low : ℤ) (k part : ℕ) → n < 2 ^ w → pos w ≤ℤ low → value.replace w n low k part ≡ n
replace_past w n low k part f past =
    replace_none w n low k part f (λ i h. let before : pos i <ℤ low = omega (arith, ints) in replaced_bit_before n low k part i before)

pub replace_before : (w n : ℕ) (low : ℤ) (k part : ℕ) → n < 2 ^ w → (low +ℤ pos k) ≤ℤ pos 0 → value.replace w n low k part ≡ n
replace_before w n low k part f before =
    replace_none w n low k part f (λ i h. let after : (low +ℤ pos k) ≤ℤ pos i = omega (arith, ints) in replaced_bit_after n low k part i after)

-- what of a part lies below the number is left out
pub replace_rest : (w n m k part : ℕ) → suc m ≤ k → value.replace w n (pos 0) (k - suc m) (part / 2 ^ suc m) ≡ value.replace w n (negsuc m) k part
replace_rest w n m k part within =
    number_of_bits (replaced_bit n (negsuc m) k part) w (value.replace w n (pos 0) (k - suc m) (part / 2 ^ suc m)) (replaced_are_bits n (negsuc m) k part)
    (number_of_fits (replaced_bit n (pos 0) (k - suc m) (part / 2 ^ suc m)) w (replaced_are_bits n (pos 0) (k - suc m) (part / 2 ^ suc m)))
    (λ i h. bit_at-number_of (replaced_bit n (pos 0) (k - suc m) (part / 2 ^ suc m)) w i (replaced_are_bits n (pos 0) (k - suc m) (part / 2 ^ suc m)) h ∙
    elim (cases_lt i (k - suc m)) [
      | inl inside ↦ (
          let above : pos 0 ≤ℤ pos i = omega (arith, ints) in
          let below : pos i <ℤ (pos 0 +ℤ pos (k - suc m)) = omega (arith, ints) in
          let above' : negsuc m ≤ℤ pos i = omega (arith, ints) in
          let below' : pos i <ℤ (negsuc m +ℤ pos k) = omega (arith, ints) in
          let from : pos i -ℤ pos 0 ≡ pos i = omega (arith, ints) in
          let from' : pos i -ℤ negsuc m ≡ pos (suc m + i) = omega (arith, ints) in
          replaced_bit_inside n (pos 0) (k - suc m) (part / 2 ^ suc m) i above below
          ∙ ap (bit_in (part / 2 ^ suc m)) from
          ∙ bit_at-shr part (suc m) i
          ∙ sym (replaced_bit_inside n (negsuc m) k part i above' below' ∙ ap (bit_in part) from'))
      | inr outside ↦ (
          let after : (pos 0 +ℤ pos (k - suc m)) ≤ℤ pos i = omega (arith, ints) in
          let after' : (negsuc m +ℤ pos k) ≤ℤ pos i = omega (arith, ints) in
          replaced_bit_after n (pos 0) (k - suc m) (part / 2 ^ suc m) i after
          ∙ sym (replaced_bit_after n (negsuc m) k part i after'))
    ])

-- ---- replace, from a distance

pub replace_at : (w n : ℕ) (low : ℤ) (k part by : ℕ) → pos 0 ≤ℤ low → by ≡ unsigned_abs low → value.replace w n (pos by) k part ≡ value.replace w n low k part
replace_at w n (pos d) k part by h e = ap (λ m. value.replace w n (pos m) k part) e
replace_at w n (negsuc d) k part by h e = absurd (omega (arith, ints))

pub replace_high : (w n : ℕ) (low : ℤ) (k part by : ℕ) → n < 2 ^ w → pos 0 ≤ℤ low → by ≡ unsigned_abs low → w ≤ by → n ≡ value.replace w n low k part
replace_high w n low k part by f h e past = sym (replace_past w n (pos by) k part f (omega (arith, ints))) ∙ replace_at w n low k part by h e

pub replace_low : (w n : ℕ) (low : ℤ) (k part by : ℕ) → n < 2 ^ w → low <ℤ pos 0 → by ≡ unsigned_abs low → k ≤ by → n ≡ value.replace w n low k part
replace_low w n (pos d) k part by f h e past = absurd (omega (arith, ints))
replace_low w n (negsuc d) k part by f h e past = sym (replace_before w n (negsuc d) k part f (omega (arith, ints)))

pub replace_cut : (w n : ℕ) (low : ℤ) (k part by : ℕ) → low <ℤ pos 0 → by ≡ unsigned_abs low → by < k
    → value.replace w n (pos 0) (k - by) (part / 2 ^ by) ≡ value.replace w n low k part
replace_cut w n (pos d) k part by h e within = absurd (omega (arith, ints))
replace_cut w n (negsuc d) k part by h e within =
    ap (λ m. value.replace w n (pos 0) (k - m) (part / 2 ^ m)) e ∙ replace_rest w n d k part (omega arith)

-- ---- the bits of the code's three pieces: above the part, the part, and below it

high_piece : (n e i : ℕ) → e ≤ i → bit_at (n / 2 ^ e * 2 ^ e) i ≡ bit_at n i
high_piece n e i h =
    let back : e + (i - e) ≡ i = omega arith in
    bit_at-shl_high (n / 2 ^ e) e i h ∙ bit_at-shr n e (i - e) ∙ ap (bit_at n) back

low_piece : (n k i : ℕ) → k < 128 → i < k → bit_at (bit_and n (1 * 2 ^ k % 2 ^ 128 - 1)) i ≡ bit_at n i
low_piece n k i g h = ap (λ m. bit_at (bit_and n (m - 1)) i) (one_shl k 128 g) ∙ ap (λ m. bit_at m i) (and_mask n k) ∙ bit_at-mod n k i h

low_piece_above : (n k i : ℕ) → k < 128 → k ≤ i → bit_at (bit_and n (1 * 2 ^ k % 2 ^ 128 - 1)) i ≡ 0
low_piece_above n k i g h = ap (λ m. bit_at (bit_and n (m - 1)) i) (one_shl k 128 g) ∙ ap (λ m. bit_at m i) (and_mask n k) ∙ bit_at-mod_above n k i h

bit_of_three : (x y z i a b c : ℕ) → bit_at x i ≡ a → bit_at y i ≡ b → bit_at z i ≡ c → bit_at (bit_or (bit_or x y) z) i ≡ max (max a b) c
bit_of_three x y z i a b c p q r = bit_at_or (bit_or x y) z i ∙ ap (λ m. max m (bit_at z i)) (bit_at_or x y i) ∙ rw (p, q, r) refl

pub placed_bit : (w n low k part i : ℕ) → w ≤ 128 → low < w → part < 2 ^ k → i < w
    → bit_at (bit_or (bit_or (n / 2 ^ (low + k) * 2 ^ (low + k)) (part * 2 ^ low % 2 ^ 128)) (bit_and n (1 * 2 ^ low % 2 ^ 128 - 1))) i
    ≡ replaced_bit n (pos low) k part i
placed_bit w n low k part i most lower fits h =
    let wide : i < 128 = omega arith in
    let shift : low < 128 = omega arith in
    let middle = bit_at-mod (part * 2 ^ low) 128 i wide in
    elim (cases_lt i low) [
      | inl before ↦ (
          let before' : pos i <ℤ pos low = omega (arith, ints) in
          bit_of_three _ _ _ i 0 0 (bit_at n i) (bit_at-shl_low (n / 2 ^ (low + k)) (low + k) i (omega arith)) (middle
          ∙ bit_at-shl_low part low i before) (low_piece n low i shift before)
          ∙ omega arith
          ∙ sym (replaced_bit_before n (pos low) k part i before'))
      | inr from ↦ elim (cases_lt i (low + k)) [
        | inl inside ↦ (
            let above : pos low ≤ℤ pos i = omega (arith, ints) in
            let below : pos i <ℤ (pos low +ℤ pos k) = omega (arith, ints) in
            let at : pos i -ℤ pos low ≡ pos (i - low) = omega (arith, ints) in
            bit_of_three _ _ _ i 0 (bit_at part (i - low)) 0 (bit_at-shl_low (n / 2 ^ (low + k)) (low + k) i inside) (middle
            ∙ bit_at-shl_high part low i from) (low_piece_above n low i shift from)
            ∙ omega arith
            ∙ sym (replaced_bit_inside n (pos low) k part i above below ∙ ap (bit_in part) at))
        | inr after ↦ (
            let after' : (pos low +ℤ pos k) ≤ℤ pos i = omega (arith, ints) in
            bit_of_three _ _ _ i (bit_at n i) 0 0 (high_piece n (low + k) i after) (middle ∙ bit_at-shl_high part low i from
            ∙ bit_at_above part k (i - low) fits (omega arith)) (low_piece_above n low i shift from)
            ∙ omega arith
            ∙ sym (replaced_bit_after n (pos low) k part i after'))
      ]
    ]

pub placed_is : (w n low k part : ℕ) → w ≤ 128 → low < w → part < 2 ^ k
    → bit_or (bit_or (n / 2 ^ (low + k) * 2 ^ (low + k)) (part * 2 ^ low % 2 ^ 128)) (bit_and n (1 * 2 ^ low % 2 ^ 128 - 1)) % 2 ^ w
    ≡ value.replace w n (pos low) k part
placed_is w n low k part most lower fits =
    number_of_bits (replaced_bit n (pos low) k part) w _ (replaced_are_bits n (pos low) k part) (mod_below _ (2 ^ w) (pow_pos w))
    (λ i h. bit_at-mod _ w i h ∙ placed_bit w n low k part i most lower fits h)

-- the code's bits from a place on, where it is past all of them
pub bits_from_past : (n k : ℕ) → n < 2 ^ 128 → 128 ≤ k → 0 ≡ n / 2 ^ k * 2 ^ k
bits_from_past n k f h = sym (ap (λ m. m * 2 ^ k) (shr_out n k 128 f h) ∙ zero-mul (2 ^ k))

-- ---- concatenation

pub joined : (high low v w : ℕ) → high < 2 ^ v → low < 2 ^ w → v + w ≤ 128 → bit_or (high * 2 ^ w % 2 ^ 128) low ≡ value.concat w high low
joined high low v w f g h = ap (λ n. bit_or n low) (shl_whole high v w 128 f h) ∙ or_shifted high w low g

pub concat_fits : (high low v w : ℕ) → high < 2 ^ v → low < 2 ^ w → value.concat w high low < 2 ^ (v + w)
concat_fits high low v w f g =
    let e : 2 ^ (v + w) ≡ 2 ^ w * 2 ^ v = omega (arith, pow-add 2 v w) in
    rw e (mul-add-lt high (2 ^ w) low (2 ^ v) f g)
