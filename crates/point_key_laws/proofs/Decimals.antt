-- The digits of a number are neither marks nor signs.
use Rattle.std.proofs.Common.{◌≡◌, ℕ, ◌+◌, ◌<◌, ◌≤◌, ◌^◌, ◌%◌, Bool, false, eqb, List, [], ◌∷◌, refl, arith}
use Rattle.std.specs.Prelude.{◌||◌}
use Rattle.std.specs.Fmt.{decimal}
use Rattle.std.specs.List.{AllByRecursion}
use Rattle.std.proofs.lemmas.Bool.{ne_eqb}
use Rattle.std.proofs.lemmas.Fmt.{decimal_by_steps}
use Rattle.cov_types.specs.Key.{is_mark, IsPlain}
use Rattle.point_key_laws.proofs.Cutting.{HasNone, all-append, all-weaker}

-- bytes from the digit 0 on
abbrev AreHigh : List ℕ → Type 0
AreHigh ds = AllByRecursion (λ d. 48 ≤ d) ds

high : (n : ℕ) → n < 2 ^ 64 → AreHigh (decimal n)
high = decimal_by_steps (λ n ds. AreHigh ds) (λ n h. (omega arith, tt))
    (λ n ds h a. all-append (λ d. 48 ≤ d) ds ((48 + n % 10) ∷ []) a (omega arith, tt))

-- the comma and the dash of a line list
abbrev pub is_sign : ℕ → Bool
is_sign b = eqb b 44 || eqb b 45

no_mark : (b : ℕ) → 48 ≤ b → is_mark b ≡ false
no_mark b h = rw (ne_eqb b 1 (λ e. absurd (omega arith)), ne_eqb b 2 (λ e. absurd (omega arith)), ne_eqb b 10 (λ e. absurd (omega arith))) refl

no_sign : (b : ℕ) → 48 ≤ b → is_sign b ≡ false
no_sign b h = rw (ne_eqb b 44 (λ e. absurd (omega arith)), ne_eqb b 45 (λ e. absurd (omega arith))) refl

pub plain_decimal : (n : ℕ) → n < 2 ^ 64 → IsPlain (decimal n)
plain_decimal n h = all-weaker (λ d. 48 ≤ d) (λ d. is_mark d ≡ false) (decimal n) no_mark (high n h)

pub unsigned_decimal : (n : ℕ) → n < 2 ^ 64 → HasNone is_sign (decimal n)
unsigned_decimal n h = all-weaker (λ d. 48 ≤ d) (λ d. is_sign d ≡ false) (decimal n) no_sign (high n h)
