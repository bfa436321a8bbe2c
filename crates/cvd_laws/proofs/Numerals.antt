-- A numeral has one value.
use Rattle.std.specs.Prelude.{◌≡◌, ℕ, zero, suc, ◌<◌, ◌≤◌, List, [], ◌∷◌, codes, map, refl}
use Rattle.std.proofs.Common.{sym, ap, ◌∙◌, arith, get_or}
use Rattle.std.proofs.lemmas.Bool.Decides.{nat_tests}
use Rattle.std.specs.Int.Digits.{digits_of, AllBelowBase}
use Rattle.std.proofs.lemmas.Int.Digits.{all_below_base_digits_of, first_digits_of, same_from_digits_of}
use Rattle.circuit_run.specs.Digits.{digit}
use Rattle.cvd_text.specs.Tokens.{numeral}

pub numeral_some : (base n : ℕ) → 0 < n → numeral base n ≡ map digit (digits_of base n)
numeral_some base n h = grind (arith, nat_tests)

pub same_digit : (d e : ℕ) → digit d ≡ digit e → d < 16 → e < 16 → d ≡ e
same_digit d e h p q = grind (arith, nat_tests)

zero_digit : (d : ℕ) → 48 ≡ digit d → 0 < d → ⊥
zero_digit d e h = grind (arith, nat_tests)

abbrev pub head : List ℕ → ℕ
head ds = get_or ds 0 0

abbrev pub tail : List ℕ → List ℕ
tail [] = []
tail (d ∷ ds) = ds

same_digits : (base : ℕ) → base ≤ 16 → (ds es : List ℕ) → AllBelowBase base ds → AllBelowBase base es → map digit ds ≡ map digit es → ds ≡ es
same_digits base small [] [] p q e = refl
same_digits base small [] (x ∷ es) p q e = cc
same_digits base small (d ∷ ds) [] p q e = cc
same_digits base small (d ∷ ds) (x ∷ es) p q e =
    ap (λ y. y ∷ ds) (same_digit d x (ap head e) (omega (arith, p.0)) (omega (arith, q.0))) ∙ ap (λ l. x ∷ l) (same_digits base small ds es p.1 q.1 (ap tail e))

-- a number above 0 doesn't begin with 0
not_zero : (base n : ℕ) → 2 ≤ base → 0 < n → codes "0" ≡ numeral base n → ⊥
not_zero base n two some e = by (digits_of base n) (ap head (e ∙ numeral_some base n some)) (first_digits_of base n two some)
  where
    by : (ds : List ℕ) → 48 ≡ head (map digit ds) → 0 < head ds → ⊥
    by [] e h = omega (arith, h)
    by (d ∷ ds) e h = zero_digit d e h

pub same_numeral : (base m n : ℕ) → 2 ≤ base → base ≤ 16 → numeral base m ≡ numeral base n → m ≡ n
same_numeral base zero zero two small e = refl
same_numeral base zero (suc n) two small e = absurd (not_zero base (suc n) two (omega arith) e)
same_numeral base (suc m) zero two small e = absurd (not_zero base (suc m) two (omega arith) (sym e))
same_numeral base (suc m) (suc n) two small e =
    same_from_digits_of base (suc m) (suc n) two
    (same_digits base small _ _ (all_below_base_digits_of base (suc m) two) (all_below_base_digits_of base (suc n) two)
    (sym (numeral_some base (suc m) (omega arith)) ∙ e ∙ numeral_some base (suc n) (omega arith)))
