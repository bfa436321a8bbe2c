-- Digits of a base and the numbers that they spell.
use Rattle.std.proofs.Common.{◌≡◌, ℕ, zero, suc, ◌+◌, ◌*◌, ◌<◌, ◌≤◌, ◌/◌, ◌%◌, Bool, true, false, eqb, List, [], ◌∷◌, ◌++◌, length, map, take, get_or, refl}
use Rattle.std.proofs.Common.{sym, ◌∙◌, ap, arith}
use Rattle.std.specs.Prelude.{◌&&◌, not, nat_lt}
use Rattle.std.specs.Str.{bytes_eq}
use Rattle.std.specs.Cmp.Lexicographic.{bytes_decides}
use Rattle.std.specs.List.{list_all}
use Rattle.std.specs.Int.Digits.{digits_of, number_from_digits, AllBelowBase}
use Rattle.std.proofs.lemmas.Bool.{cases_Bool, eqb-true, true≢false}
use Rattle.std.proofs.lemmas.Bool.Decides.{nat_tests}
use Rattle.std.proofs.lemmas.Int.Digits.{all_below_base_digits_of, first_digits_of, number_after_ge, number_more, digits_of_step}
use Rattle.std.proofs.lemmas.Nat.{div-mul-add, mod-mul-add}
use Rattle.std.proofs.Math.Seq.{take-suc}
use Rattle.cvd_laws.proofs.Numerals.{numeral_some}
use mathlib.Core.Logic.{inl, inr}
use Rattle.circuit_run.specs.Digits.{digit}
use Rattle.cvd_text.specs.Tokens.{numeral}
use Rattle.cvd_cursor.specs.Numerals.{worth, is_digit, is_numeral, value_of}

-- ---- single digits

pub worth_shown : (d : ℕ) → d < 16 → worth (digit d) ≡ d
worth_shown d small = grind (arith, nat_tests)

pub shown_digit : (base d : ℕ) → d < base → base ≤ 16 → is_digit base (digit d) ≡ true
shown_digit base d small most = grind (arith, nat_tests, worth_shown d)

pub shown_worth : (base b : ℕ) → is_digit base b ≡ true → digit (worth b) ≡ b
shown_worth base b h = grind (arith, nat_tests)

pub worth_small : (base b : ℕ) → is_digit base b ≡ true → worth b < base
worth_small base b h = grind (arith, nat_tests)

pub first_of : (a b : Bool) → (a && b) ≡ true → a ≡ true
first_of true b e = refl
first_of false b e = absurd (true≢false (sym e))

second_of : (a b : Bool) → (a && b) ≡ true → b ≡ true
second_of true b e = e
second_of false b e = absurd (true≢false (sym e))

both : (a b : Bool) → a ≡ true → b ≡ true → (a && b) ≡ true
both a b e f = ap (λ x. x && b) e ∙ f

-- ---- digits of a list

pub all_shown : (base : ℕ) (bs : List ℕ) → list_all (is_digit base) bs ≡ true → map digit (map worth bs) ≡ bs
all_shown base [] h = refl
all_shown base (b ∷ bs) h =
    ap (λ x. x ∷ map digit (map worth bs)) (shown_worth base b (first_of _ _ h)) ∙ ap (λ l. b ∷ l) (all_shown base bs (second_of (is_digit base b) _ h))

pub all_worth : (ds : List ℕ) → AllBelowBase 16 ds → map worth (map digit ds) ≡ ds
all_worth [] h = refl
all_worth (d ∷ ds) h = ap (λ x. x ∷ map worth (map digit ds)) (worth_shown d h.0) ∙ ap (λ l. d ∷ l) (all_worth ds h.1)

pub all_below : (base : ℕ) (bs : List ℕ) → list_all (is_digit base) bs ≡ true → AllBelowBase base (map worth bs)
all_below base [] h = tt
all_below base (b ∷ bs) h = (worth_small base b (first_of _ _ h), all_below base bs (second_of (is_digit base b) _ h))

pub digits_all : (base : ℕ) (ds : List ℕ) → base ≤ 16 → AllBelowBase base ds → list_all (is_digit base) (map digit ds) ≡ true
digits_all base [] most h = refl
digits_all base (d ∷ ds) most h = rw (shown_digit base d h.0 most, digits_all base ds most h.1) refl

below_at : (b : ℕ) (ds : List ℕ) (i : ℕ) → AllBelowBase b ds → i < length ds → get_or ds i 0 < b
below_at b [] i h within = absurd (omega arith)
below_at b (d ∷ ds) zero h within = h.0
below_at b (d ∷ ds) (suc i) h within = below_at b ds i h.1 (omega arith)

some_number : (b d : ℕ) (ds : List ℕ) → 0 < b → 0 < d → 0 < number_from_digits b (d ∷ ds)
some_number b d ds base first = let least = number_after_ge b (0 * b + d) ds base in omega arith

-- the digits of the number that digits spell, one digit more at a time
digits_back : (b d : ℕ) (ds : List ℕ) → 2 ≤ b → AllBelowBase b (d ∷ ds) → 0 < d → (i : ℕ) → i ≤ length (d ∷ ds)
    → digits_of b (number_from_digits b (take i (d ∷ ds))) ≡ take i (d ∷ ds)
digits_back b d ds two all first zero within = refl
digits_back b d ds two all first (suc i) within =
    let rest = take i (d ∷ ds) in
    let last = get_or (d ∷ ds) i 0 in
    let small = below_at b (d ∷ ds) i all (omega arith) in
    let i1 : suc i ≡ i + 1 = omega arith in
    let number : number_from_digits b (take (suc i) (d ∷ ds)) ≡ number_from_digits b rest * b + last =
    ap (λ k. number_from_digits b (take k (d ∷ ds))) i1 ∙ number_more b (d ∷ ds) i (omega arith) in
    let some = some_number b d (take i ds) (omega arith) first in
    let step = digits_of_step b (number_from_digits b (take (suc i) (d ∷ ds))) two some in
    let high = ap (λ n. n / b) number ∙ div-mul-add (number_from_digits b rest) b last small in
    let low = ap (λ n. n % b) number ∙ mod-mul-add (number_from_digits b rest) b last small in
    step ∙ ap (λ n. digits_of b n ++ number_from_digits b (take (suc i) (d ∷ ds)) % b ∷ []) high
    ∙ ap (λ n. digits_of b (number_from_digits b rest) ++ n ∷ []) low
    ∙ ap (λ l. l ++ last ∷ []) (digits_back b d ds two all first i (omega arith))
    ∙ sym (take-suc (d ∷ ds) i 0 (omega arith))

take_all : (ds : List ℕ) → take (length ds) ds ≡ ds
take_all [] = refl
take_all (d ∷ ds) = ap (λ l. d ∷ l) (take_all ds)

-- digits without a leading zero are those of their number
spelled_back : (base b : ℕ) (bs : List ℕ) → 2 ≤ base → list_all (is_digit base) (b ∷ bs) ≡ true → 0 < worth b
    → numeral base (value_of base (b ∷ bs)) ≡ b ∷ bs
spelled_back base b bs two all first =
    let ds = map worth bs in
    let n = number_from_digits base (worth b ∷ ds) in
    numeral_some base n (some_number base (worth b) ds (omega arith) first)
    ∙ ap (λ l. map digit (digits_of base (number_from_digits base l))) (sym (take_all (worth b ∷ ds)))
    ∙ ap (map digit) (digits_back base (worth b) ds two (all_below base (b ∷ bs) all) first (length (worth b ∷ ds)) (omega arith) ∙ take_all (worth b ∷ ds))
    ∙ all_shown base (b ∷ bs) all

some_worth : (base b : ℕ) → is_digit base b ≡ true → eqb b 48 ≡ false → 0 < worth b
some_worth base b h other = grind (arith, nat_tests)

false_not : (b : Bool) → not b ≡ true → b ≡ false
false_not true e = absurd (true≢false (sym e))
false_not false e = refl

nought_back : (base : ℕ) → numeral base (value_of base (48 ∷ [])) ≡ 48 ∷ []
nought_back base = let nought : value_of base (48 ∷ []) ≡ 0 = omega arith in ap (numeral base) nought

-- a word that is a numeral spells its number
pub numeral_back : (base : ℕ) (text : List ℕ) → 2 ≤ base → is_numeral base text ≡ true → numeral base (value_of base text) ≡ text
numeral_back base [] two h = absurd (true≢false (sym h))
numeral_back base (b ∷ []) two h = elim (cases_Bool (eqb b 48)) [
  | inl nought ↦ ap (λ x. numeral base (value_of base (x ∷ []))) (eqb-true b 48 nought) ∙ nought_back base ∙ sym (ap (λ x. x ∷ []) (eqb-true b 48 nought))
  | inr other ↦ spelled_back base b [] two (both _ true h refl) (some_worth base b h other)
]
numeral_back base (b ∷ c ∷ bs) two h =
    let digits = second_of (is_digit base b && not (eqb b 48)) _ h in
    let here = first_of _ _ (first_of (is_digit base b && not (eqb b 48)) _ h) in
    let other = false_not (eqb b 48) (second_of (is_digit base b) _ (first_of (is_digit base b && not (eqb b 48)) _ h)) in
    spelled_back base b (c ∷ bs) two (both _ _ here digits) (some_worth base b here other)

digit_other : (d : ℕ) → 0 < d → d < 16 → not (eqb (digit d) 48) ≡ true
digit_other d some small = grind (arith, nat_tests)

numeral_shape : (base : ℕ) (ds : List ℕ) → base ≤ 16 → AllBelowBase base ds → 0 < get_or ds 0 0 → is_numeral base (map digit ds) ≡ true
numeral_shape base [] most all first = absurd (omega arith)
numeral_shape base (d ∷ []) most all first = shown_digit base d all.0 most
numeral_shape base (d ∷ e ∷ ds) most all first =
    let small = all.0 in
    rw (shown_digit base d all.0 most, digit_other d first (omega arith)) (digits_all base (e ∷ ds) most all.1)

-- a numeral is one
pub numeral_is : (base n : ℕ) → 2 ≤ base → base ≤ 16 → is_numeral base (numeral base n) ≡ true
numeral_is base zero two most = let some : nat_lt 0 base ≡ true = grind (arith, nat_tests) in rw some refl
numeral_is base (suc n) two most =
    ap (is_numeral base) (numeral_some base (suc n) (omega arith))
    ∙ numeral_shape base (digits_of base (suc n)) most (all_below_base_digits_of base (suc n) two) (first_digits_of base (suc n) two (omega arith))

-- a word that is no numeral spells no number
pub no_numeral : (base n : ℕ) (text : List ℕ) → 2 ≤ base → base ≤ 16 → is_numeral base text ≡ false → bytes_eq text (numeral base n) ≡ false
no_numeral base n text two most h = elim (cases_Bool (bytes_eq text (numeral base n))) [
  | inl same ↦ absurd (true≢false (sym (numeral_is base n two most) ∙ ap (is_numeral base) (sym ((bytes_decides text (numeral base n)).0 same)) ∙ h))
  | inr other ↦ other
]

pub fits_numeral : (base : ℕ) (text : List ℕ) → 2 ≤ base → is_numeral base text ≡ true → bytes_eq text (numeral base (value_of base text)) ≡ true
fits_numeral base text two h = (bytes_decides text _).1 (sym (numeral_back base text two h))

-- a numeral's bytes are digits
pub numeral_digits : (base : ℕ) (text : List ℕ) → is_numeral base text ≡ true → list_all (is_digit base) text ≡ true
numeral_digits base [] h = refl
numeral_digits base (b ∷ []) h = both _ true h refl
numeral_digits base (b ∷ c ∷ bs) h =
    both _ _ (first_of _ _ (first_of (is_digit base b && not (eqb b 48)) _ h)) (second_of (is_digit base b && not (eqb b 48)) _ h)
