-- Numbers as they are written.
use Rattle.std.specs.Prelude.{◌≡◌, ℕ, zero, suc, ◌+◌, ◌/◌, ◌%◌, ◌<◌, ◌≤◌, ◌^◌, List, [], ◌∷◌, ◌++◌, decimal, map, refl}
use Rattle.std.proofs.Common.{sym, ap, ◌∙◌, arith}
use Rattle.std.proofs.lemmas.Bool.Decides.{nat_tests}
use Rattle.std.specs.Int.Digits.{digits_of, AllBelowBase}
use Rattle.std.proofs.lemmas.Int.Digits.{digits_of_step, all_below_base_digits_of}
use Rattle.std.proofs.lemmas.Fmt.{decimal-digits_of, decimal_digit}
use Rattle.circuit_run.specs.Digits.{digit}
use Rattle.cvd_text.specs.Tokens.{numeral, decimal_text, hex_text}

numeral_some : (base n : ℕ) → 0 < n → numeral base n ≡ map digit (digits_of base n)
numeral_some base n h = grind (arith, nat_tests)

low_digit : (d : ℕ) → d < 10 → 48 + d ≡ digit d
low_digit d h = grind (arith, nat_tests)

low_digits : (ds : List ℕ) → AllBelowBase 10 ds → map (λ d. 48 + d) ds ≡ map digit ds
low_digits [] h = refl
low_digits (d ∷ ds) h = ap (λ x. x ∷ map (λ e. 48 + e) ds) (low_digit d h.0) ∙ ap (λ l. digit d ∷ l) (low_digits ds h.1)

pub decimal_same : (n : ℕ) → n < 2 ^ 64 → decimal n ≡ decimal_text n
decimal_same zero h = decimal_digit 0 (omega arith)
decimal_same (suc n) h =
    decimal-digits_of (suc n) (omega arith) h ∙ low_digits (digits_of 10 (suc n)) (all_below_base_digits_of 10 (suc n) (omega arith))
    ∙ sym (numeral_some 10 (suc n) (omega arith))

map_joined : (xs ys : List ℕ) → map digit (xs ++ ys) ≡ map digit xs ++ map digit ys
map_joined [] ys = refl
map_joined (x ∷ xs) ys = ap (λ l. digit x ∷ l) (map_joined xs ys)

-- one digit
pub hex_last : (n : ℕ) → n < 16 → hex_text n ≡ digit (n % 16) ∷ []
hex_last zero h = refl
hex_last (suc n) h =
    numeral_some 16 (suc n) (omega arith) ∙ ap (map digit) (digits_of_step 16 (suc n) (omega arith) (omega arith))
    ∙ ap (λ m. map digit (digits_of 16 m ++ suc n % 16 ∷ [])) nothing
  where
    nothing : suc n / 16 ≡ 0
    nothing = omega arith

-- the digits above the last, and the last
pub hex_step : (n : ℕ) → 16 ≤ n → hex_text n ≡ hex_text (n / 16) ++ digit (n % 16) ∷ []
hex_step n h =
    numeral_some 16 n (omega arith) ∙ ap (map digit) (digits_of_step 16 n (omega arith) (omega arith))
    ∙ map_joined (digits_of 16 (n / 16)) (n % 16 ∷ [])
    ∙ ap (λ l. l ++ digit (n % 16) ∷ []) (sym (numeral_some 16 (n / 16) some))
  where
    some : 0 < n / 16
    some = omega arith
