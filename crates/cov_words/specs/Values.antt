-- What the values of words may be (docs/commands.md, "Words").
use Rattle.std.specs.Prelude.{ℕ, ◌==◌, ◌&&◌, ◌||◌, Bool, not, nat_le, List, length, Option, None, Some, if◌then◌else◌}
use Rattle.std.specs.List.{list_all}
use Rattle.std.specs.Char.{is_ascii_lowercase, is_ascii_digit}
use Rattle.cov_port.specs.Decimal.{decimal_of}

-- a byte that a name may have: none below the blank, and not the delete byte
abbrev pub is_name_byte : ℕ → Bool
is_name_byte byte = nat_le 32 byte && not (byte == 127)

-- a name of a file or a folder has 1 to 4,096 such bytes
abbrev pub is_name : List ℕ → Bool
is_name text = nat_le 1 (length text) && nat_le (length text) 4096 && list_all is_name_byte text

-- a byte of a pattern: a lower-case letter, a digit, `_`, `*` or `?`
abbrev pub is_pattern_byte : ℕ → Bool
is_pattern_byte byte = is_ascii_lowercase byte || is_ascii_digit byte || byte == 95 || byte == 42 || byte == 63

-- a pattern has 1 to 64 such bytes
abbrev pub is_pattern : List ℕ → Bool
is_pattern text = nat_le 1 (length text) && nat_le (length text) 64 && list_all is_pattern_byte text

abbrev pub if_at_least : ℕ → Option ℕ → Option ℕ
if_at_least least None = None
if_at_least least (Some n) = if nat_le least n then Some n else None

-- the number that 1 to 20 decimal digits spell, where it lies in the range
abbrev pub number_in : ℕ → ℕ → List ℕ → Option ℕ
number_in least most text = if_at_least least (decimal_of text most)
