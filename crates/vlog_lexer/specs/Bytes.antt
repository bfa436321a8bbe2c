-- Classes of bytes.
use Rattle.std.specs.Prelude.{ℕ, ◌==◌, ◌||◌, Bool}
use Rattle.std.specs.Char.{is_ascii_digit, is_ascii_hexdigit, is_ascii_whitespace}

-- a space, tab, line feed, form feed or carriage return (IEEE 1364-2005, 3.2; carriage return: own)
unfoldable pub is_white : ℕ → Bool
is_white b = is_ascii_whitespace b

-- a space or a tab
unfoldable pub is_gap : ℕ → Bool
is_gap b = b == 32 || b == 9

unfoldable pub is_line_feed : ℕ → Bool
is_line_feed b = b == 10

-- what a plain decimal goes on with: digits and `_` (IEEE 1364-2005, 3.5.1)
unfoldable pub continues_decimal : ℕ → Bool
continues_decimal b = is_ascii_digit b || b == 95

-- what a number begins with: a digit or a `'`
unfoldable pub begins_number : ℕ → Bool
begins_number b = is_ascii_digit b || b == 39

-- z, Z or `?`: a digit whose bits are free
unfoldable pub is_free : ℕ → Bool
is_free b = b == 122 || b == 90 || b == 63

-- what a number goes on with behind its base, in order or not: hexadecimal digits, `_`, x, z and `?`
unfoldable pub continues_digits : ℕ → Bool
continues_digits b = is_ascii_hexdigit b || b == 95 || is_free b || b == 120 || b == 88
