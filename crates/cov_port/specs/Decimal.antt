-- Decimal numbers.
use Rattle.std.specs.Prelude.{ℕ, ◌+◌, ◌-◌, ◌*◌, ◌^◌, ◌&&◌, Bool, nat_le, List, [], ◌∷◌, length, Option, None, Some, if◌then◌else◌}
use Rattle.std.specs.List.{list_all}

-- '0' to '9'
abbrev pub is_digit : ℕ → Bool
is_digit byte = nat_le 48 byte && nat_le byte 57

-- the value of digits by their places, the last being worth 1
abbrev pub value_of : List ℕ → ℕ
value_of [] = 0
value_of (d ∷ ds) = (d - 48) * 10 ^ length ds + value_of ds

-- 1 to 20 digits
abbrev pub is_decimal : List ℕ → Bool
is_decimal text = nat_le 1 (length text) && nat_le (length text) 20 && list_all is_digit text

-- the number that 1 to 20 digits spell, where it is at most this
abbrev pub decimal_of : List ℕ → ℕ → Option ℕ
decimal_of text most = if is_decimal text && nat_le (value_of text) most then Some (value_of text) else None
