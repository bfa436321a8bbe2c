-- Hexadecimal numbers.
use Rattle.std.specs.Prelude.{ℕ, ◌+◌, ◌-◌, ◌*◌, ◌^◌, ◌&&◌, ◌||◌, Bool, nat_le, List, [], ◌∷◌, length, Option, None, Some, if◌then◌else◌}
use Rattle.std.specs.List.{list_all}
use Rattle.cov_port.specs.Decimal.{is_digit}

-- '0' to '9', 'A' to 'F' and 'a' to 'f'
abbrev pub is_hex_digit : ℕ → Bool
is_hex_digit byte = is_digit byte || ((nat_le 65 byte && nat_le byte 70) || (nat_le 97 byte && nat_le byte 102))

-- the value of a digit of either case
abbrev pub hex_digit_value : ℕ → ℕ
hex_digit_value byte = if is_digit byte then byte - 48 else (if nat_le byte 70 then byte - 55 else byte - 87)

-- the value of digits by their places, the last being worth 1
abbrev pub hex_value : List ℕ → ℕ
hex_value [] = 0
hex_value (d ∷ ds) = hex_digit_value d * 16 ^ length ds + hex_value ds

-- the number that 1 to 32 hexadecimal digits of either case spell
abbrev pub hexadecimal_of : List ℕ → Option ℕ
hexadecimal_of text = if nat_le 1 (length text) && nat_le (length text) 32 && list_all is_hex_digit text then Some (hex_value text) else None

-- the value of a byte, if it is a digit
abbrev pub hex_digit : ℕ → Option ℕ
hex_digit byte = if is_hex_digit byte then Some (hex_digit_value byte) else None
