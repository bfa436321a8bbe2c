-- Numbers (IEEE 1364-2005, 3.5.1).
use Rattle.std.specs.Prelude.{ℕ, ◌+◌, ◌-◌, ◌*◌, ◌%◌, ◌^◌, ◌==◌, ◌||◌, ◌&&◌, Bool, true, false, not, nat_le, nat_lt, min, List, [], ◌∷◌, length, take, drop, map}
use Rattle.std.specs.Prelude.{Option, None, Some, Result, Ok, Err, is_some, if◌then◌else◌}
use Rattle.std.specs.Char.{is_ascii_hexdigit}
use Rattle.std.specs.List.{list_all, prefix_len, take_while}
use Rattle.vlog_lexer.specs.Bytes.{continues_decimal, continues_digits, is_free}
use Rattle.vlog_lexer.specs.declared.number.Numeral.{Numeral}
use Rattle.vlog_lexer.specs.declared.piece.Flaw.{Flaw}
use Rattle.vlog_lexer.specs.declared.piece.Flaw.TheVariants.{BadNumber, NumberTooWide}

-- the number that digits spell in a base, the last digit counting once, each before it the base more
abbrev pub place_value : ℕ → List ℕ → ℕ
place_value base [] = 0
place_value base (d ∷ digits) = d * base ^ length digits + place_value base digits

-- what a digit counts: 0 to 9, and from 10 on the letters from a on
unfoldable pub digit_value : ℕ → ℕ
digit_value b = if nat_le b 57 then b - 48 else (if nat_le b 70 then b - 55 else b - 87)

-- what it counts in the value, where a free digit counts 0
unfoldable pub value_digit : ℕ → ℕ
value_digit b = if is_free b then 0 else digit_value b

-- what it counts in the mask of free bits: all its bits, or none
unfoldable pub free_digit : ℕ → ℕ → ℕ
free_digit base b = if is_free b then base - 1 else 0

-- the digits, without each `_` between them
abbrev pub digits_of : List ℕ → List ℕ
digits_of [] = []
digits_of (b ∷ bytes) = if b == 95 then digits_of bytes else b ∷ digits_of bytes

-- the value of a number's digits
unfoldable pub number_value : ℕ → List ℕ → ℕ
number_value base bytes = place_value base (map value_digit (digits_of bytes))

-- the value with one byte more, where a digit counts as f says, and `_` doesn't count
unfoldable pub with_byte : (ℕ → ℕ) → ℕ → ℕ → ℕ → ℕ
with_byte f base value b = if b == 95 then value else value * base + f b

-- 128 ones above the digits where the first of them is free, since its bits are repeated above it
unfoldable pub bits_above : List ℕ → ℕ
bits_above [] = 0
bits_above (d ∷ digits) = if is_free d then 2 ^ 128 - 1 else 0

-- the mask of the free bits, not yet cut to a width
unfoldable pub free_bits : ℕ → List ℕ → ℕ
free_bits base bytes = place_value base (bits_above (digits_of bytes) ∷ map (free_digit base) (digits_of bytes))

-- whether a byte is a digit of the base, or a free one where such may stand
unfoldable pub is_digit_of : Bool → ℕ → ℕ → Bool
is_digit_of free base b = (is_ascii_hexdigit b && nat_lt (digit_value b) base) || (free && is_free b)

unfoldable pub is_digit_or_underscore : Bool → ℕ → ℕ → Bool
is_digit_or_underscore free base b = is_digit_of free base b || b == 95

-- whether the bytes behind a base are in order: a digit, and then digits and underscores
unfoldable pub is_in_order : Bool → ℕ → List ℕ → Bool
is_in_order free base [] = false
is_in_order free base (d ∷ rest) = is_digit_of free base d && list_all (is_digit_or_underscore free base) rest

-- where free digits may stand: in a number with a size, without sign, of base 2, 8 or 16
unfoldable pub may_be_free : Option ℕ → Bool → ℕ → Bool
may_be_free size signed base = is_some size && not signed && not (base == 10)

-- the bits of a number: its size, or 32
unfoldable pub width_of : Option ℕ → ℕ
width_of None = 32
width_of (Some n) = n

-- the bits that its value may have before it is cut to its width
unfoldable pub bits_of : Option ℕ → ℕ
bits_of None = 32
bits_of (Some n) = 128

-- the number, where it has at most 128 bits
abbrev pub below : ℕ → Option ℕ
below n = if nat_lt n (2 ^ 128) then Some n else None

-- the number, or the greatest of 128 bits
abbrev pub capped : Option ℕ → Option ℕ
capped None = None
capped (Some n) = Some (min n (2 ^ 128 - 1))

abbrev pub numeral : ℕ → Bool → ℕ → ℕ → Numeral
numeral width signed value free = record { width = width; signed = signed; value = value; free = free }

-- size 0, or digits that are not in order
unfoldable pub is_bad : Option ℕ → Bool → ℕ → List ℕ → Bool
is_bad size signed base digits = width_of size == 0 || not (is_in_order (may_be_free size signed base) base digits)

-- a size past 128, or a value past the bits that it may have
unfoldable pub is_wide : Option ℕ → ℕ → Bool
is_wide size value = nat_lt 128 (width_of size) || nat_le (2 ^ bits_of size) value

-- the value, where it has the bits that it may have
abbrev pub fitting : Option ℕ → ℕ → Option ℕ
fitting size value = if is_wide size value then None else Some value

-- the number with this size or none, sign, base, and digits behind the base
unfoldable pub based_numeral : Option ℕ → Bool → ℕ → List ℕ → Result Numeral Flaw
based_numeral size signed base digits =
    let width = width_of size in
    let value = number_value base digits in
    if is_bad size signed base digits then Err BadNumber else (
    if is_wide size value then Err NumberTooWide else
    Ok (numeral width signed (value % 2 ^ width) (free_bits base digits % 2 ^ width)))

-- the base that a letter names
unfoldable pub base_of : ℕ → Option ℕ
base_of b =
    if b == 98 || b == 66 then Some 2 else (
    if b == 111 || b == 79 then Some 8 else (
    if b == 100 || b == 68 then Some 10 else (
    if b == 104 || b == 72 then Some 16 else None)))

-- a number and how many bytes it has
abbrev pub Counted : Type 0
Counted = Result (Numeral × ℕ) Flaw

abbrev pub counted : ℕ → Result Numeral Flaw → Counted
counted n (Ok found) = Ok (found, n)
counted n (Err flaw) = Err flaw

-- behind a base letter: the run of digits, in order or not, with the count of the bytes before it
unfoldable pub behind_base : ℕ → Option ℕ → Bool → Option ℕ → List ℕ → Counted
behind_base before size signed None text = Err BadNumber
behind_base before size signed (Some base) text =
    counted (before + prefix_len continues_digits text) (based_numeral size signed base (take_while continues_digits text))

unfoldable pub behind_sign : ℕ → Option ℕ → Bool → List ℕ → Counted
behind_sign before size signed [] = Err BadNumber
behind_sign before size signed (letter ∷ text) = behind_base (before + 1) size signed (base_of letter) text

unfoldable pub begins_with_sign : List ℕ → Bool
begins_with_sign [] = false
begins_with_sign (b ∷ text) = b == 115 || b == 83

-- behind the quote: a sign or none, a base, digits
unfoldable pub behind_quote : ℕ → Option ℕ → List ℕ → Counted
behind_quote before size text =
    if begins_with_sign text then behind_sign (before + 1) size true (drop 1 text) else behind_sign before size false text

unfoldable pub plain_numeral : ℕ → ℕ → Counted
plain_numeral n value = if is_wide None value then Err NumberTooWide else Ok (numeral 32 true value 0, n)

unfoldable pub size_of : List ℕ → Option ℕ
size_of [] = None
size_of (b ∷ bytes) = Some (number_value 10 (b ∷ bytes))

unfoldable pub begins_with_quote : List ℕ → Bool
begins_with_quote [] = false
begins_with_quote (b ∷ text) = b == 39

-- the number at the front of a text that begins with a digit or a `'`
unfoldable pub number_of : List ℕ → Counted
number_of text =
    let n = prefix_len continues_decimal text in
    if begins_with_quote (drop n text) then behind_quote (n + 1) (size_of (take n text)) (drop (n + 1) text)
    else plain_numeral n (number_value 10 (take n text))
