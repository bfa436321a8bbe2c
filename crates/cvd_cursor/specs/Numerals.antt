-- Numbers as they are read: digits of a base, without leading zeros.
use Rattle.std.specs.Prelude.{ℕ, ◌-◌, ◌==◌, ◌&&◌, ◌||◌, not, Bool, false, nat_le, nat_lt, List, [], ◌∷◌, map, Option, None, Some, if◌then◌else◌}
use Rattle.std.specs.List.{list_all}
use Rattle.std.specs.Int.Digits.{number_from_digits}
use Rattle.cvd_text.specs.Tokens.{Token, number, hex}

-- what a digit counts, `a` to `f` being 10 to 15
abbrev pub worth : ℕ → ℕ
worth b = if nat_le b 57 then b - 48 else b - 87

abbrev pub is_digit : ℕ → ℕ → Bool
is_digit base b = (nat_le 48 b && nat_le b 57 || nat_le 97 b && nat_le b 102) && nat_lt (worth b) base

-- digits of the base, the first of which is 0 only where it is the last
abbrev pub is_numeral : ℕ → List ℕ → Bool
is_numeral base [] = false
is_numeral base (b ∷ []) = is_digit base b
is_numeral base (b ∷ c ∷ bs) = is_digit base b && not (b == 48) && list_all (is_digit base) (c ∷ bs)

abbrev pub value_of : ℕ → List ℕ → ℕ
value_of base text = number_from_digits base (map worth text)

-- a number, where it is below a limit
abbrev pub below : ℕ → ℕ → Option ℕ
below limit n = if nat_lt n limit then Some n else None

-- the tokens of a number
abbrev pub number_tokens : ℕ → List Token
number_tokens n = number n ∷ []

abbrev pub hex_tokens : ℕ → List Token
hex_tokens n = hex n ∷ []
