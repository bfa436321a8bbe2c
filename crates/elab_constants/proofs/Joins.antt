-- Values beside one another, and counts.
use Rattle.std.proofs.Common.{◌≡◌, ◌∙◌, sym, ap, refl, ℕ, suc, ◌+◌, ◌*◌, ◌^◌, ◌-◌, ◌<◌, ◌≤◌, Bool, true, false, List, [], ◌∷◌, ◌++◌, arith, add-one, pos}
use Rattle.std.proofs.Common.{int_le, nat_lt}
use Rattle.std.proofs.lemmas.Nat.{pow-add, pow_pos}
use Rattle.bit_values.specs.Values as value
use Rattle.bit_values.proofs.Widths.{signed_high, signed_low}
use Rattle.source_meaning.specs.Meaning.{Meaning, own, total_size, reading}
use Rattle.source_meaning.specs.Joins.{joined_value, copies, powers_below}

-- one part more
pub total_more : (ms : List Meaning) (m : Meaning) → total_size (ms ++ m ∷ []) ≡ total_size ms + m.size
total_more [] m = omega arith
total_more (a ∷ ms) m = omega (arith, total_more ms m)

last_alone : (x p : ℕ) → x * 1 + 0 ≡ 0 * p + x
last_alone x p = omega arith

moved_up : (x p q r j o : ℕ) → r ≡ p * q → x * r + (j * q + o) ≡ (x * p + j) * q + o
moved_up x p q r j o e = ap (λ z. x * z + (j * q + o)) e ∙ omega arith

pub joined_more : (ms : List Meaning) (m : Meaning) → joined_value (ms ++ m ∷ []) [] ≡ value.concat m.size (joined_value ms []) (own m [])
joined_more [] m = last_alone (own m []) (2 ^ m.size)
joined_more (a ∷ ms) m =
    ap (λ j. own a [] * 2 ^ total_size (ms ++ m ∷ []) + j) (joined_more ms m)
    ∙ moved_up (own a []) (2 ^ total_size ms) (2 ^ m.size) (2 ^ total_size (ms ++ m ∷ [])) (joined_value ms []) (own m [])
    (ap (λ n. 2 ^ n) (total_more ms m) ∙ pow-add 2 (total_size ms) m.size)

-- a value once, and once more
pub copies_once : (w n : ℕ) → n ≡ copies 1 w n
copies_once w n = below (2 ^ w)
  where
    below : (m : ℕ) → n ≡ 0 * m + n
    below m = omega arith

pub copies_more : (w n k : ℕ) → value.concat w (copies k w n) n ≡ copies (k + 1) w n
copies_more w n k = ap (λ z. copies z w n) (sym (add-one k))

-- a value that is 0, or below 0 by its sign, is below 1
zero_is_low : (w : ℕ) (b : Bool) → int_le (pos 1) (reading w b 0) ≡ false
zero_is_low w true = ap (int_le (pos 1)) (signed_low w 0 (pow_pos (w - 1)))
zero_is_low w false = refl

pub low_zero : (w n : ℕ) (b : Bool) → n ≡ 0 → int_le (pos 1) (reading w b n) ≡ false
low_zero w n b e = ap (λ k. int_le (pos 1) (reading w b k)) e ∙ zero_is_low w b

pub low_negative : (w n : ℕ) → n < 2 ^ w → 2 ^ (w - 1) ≤ n → int_le (pos 1) (reading w true n) ≡ false
low_negative w n h k = ap (int_le (pos 1)) (signed_high w n h k)

-- any other is what it is
pub count_signed : (w n : ℕ) → n < 2 ^ (w - 1) → reading w true n ≡ pos n
count_signed w n h = signed_low w n h

-- no power, and one more
pub powers_none : (n : ℕ) → powers_below 0 n ≡ 0
unfolding powers_below
powers_none n = refl

next_power : (k n : ℕ) → powers_below (suc k) n ≡ powers_below k n + value.flag (nat_lt (2 ^ k) n)
unfolding powers_below
next_power k n = refl

pub powers_more : (k n : ℕ) → powers_below (k + 1) n ≡ powers_below k n + value.flag (nat_lt (2 ^ k) n)
powers_more k n = ap (λ z. powers_below z n) (add-one k) ∙ next_power k n

nothing_above : (p o : ℕ) → 0 * p + o ≡ o
nothing_above p o = omega arith

-- a first part, of this width and value
pub after_none : (ms : List Meaning) (m : Meaning) (w n : ℕ) → total_size ms ≡ 0 → joined_value ms [] ≡ 0 → w ≡ m.size → n ≡ own m []
    → (total_size (ms ++ m ∷ []) ≡ w) × (joined_value (ms ++ m ∷ []) [] ≡ n)
after_none ms m w n t j h k = (
  omega (arith, total_more ms m),
  joined_more ms m ∙ ap (λ x. value.concat m.size x (own m [])) j ∙ nothing_above (2 ^ m.size) (own m []) ∙ sym k,
)

-- a part behind others
pub after_some : (ms : List Meaning) (m : Meaning) (hw hb pw pb w n : ℕ) → total_size ms ≡ hw → joined_value ms [] ≡ hb → pw ≡ m.size → pb ≡ own m []
    → w ≡ hw + pw → n ≡ value.concat pw hb pb → (total_size (ms ++ m ∷ []) ≡ w) × (joined_value (ms ++ m ∷ []) [] ≡ n)
after_some ms m hw hb pw pb w n t j h k e f = (
  omega (arith, total_more ms m),
  joined_more ms m ∙ ap (λ x. value.concat m.size x (own m [])) j ∙ ap (λ x. value.concat x hb (own m [])) (sym h) ∙ ap (value.concat pw hb) (sym k) ∙ sym f,
)

-- the total is no less behind one part more
pub total_grows : (ms : List Meaning) (m : Meaning) (k : ℕ) → k ≤ total_size ms + m.size → k ≤ total_size (ms ++ m ∷ [])
total_grows ms m k h = omega (arith, total_more ms m)
