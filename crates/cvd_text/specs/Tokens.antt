-- What the text of a design is made of: lines of tokens (docs/formats.md, "Design files").
use Rattle.std.specs.Prelude.{ℕ, ◌/◌, ◌%◌, ◌==◌, nat_lt, Bool, true, false, List, [], ◌∷◌, codes, map, flat_map, if◌then◌else◌}
use Rattle.std.specs.List.{slice_split}
use Rattle.std.specs.Int.Digits.{digits_of}
use Rattle.circuit_run.specs.Digits.{digit}
use Rattle.cov_types.specs.LineLists.{separated}

-- A token by what it means.
pub data Token : Type 0 where
  -- this very word
  word : List ℕ → Token
  -- a number in decimal, and one in hexadecimal
  number : ℕ → Token
  hex : ℕ → Token
  -- the bytes of a text, two hexadecimal digits each
  digits : List ℕ → Token
  -- a list of counters, joined by commas, or `-`
  counters : List ℕ → Token

-- a number in a base, of any size, without leading zeros
abbrev pub numeral : ℕ → ℕ → List ℕ
numeral base n = if n == 0 then codes "0" else map digit (digits_of base n)

abbrev pub decimal_text : ℕ → List ℕ
decimal_text n = numeral 10 n

abbrev pub hex_text : ℕ → List ℕ
hex_text n = numeral 16 n

-- a byte in two hexadecimal digits; a number that is no byte stands for itself, so that no text of bytes has it
abbrev pub byte_text : ℕ → List ℕ
byte_text byte = if nat_lt byte 256 then digit (byte / 16) ∷ digit (byte % 16) ∷ [] else byte ∷ []

abbrev pub counters_text : List ℕ → List ℕ
counters_text [] = codes "-"
counters_text (n ∷ ns) = separated (codes ",") (map decimal_text (n ∷ ns))

-- the spelling of a token
abbrev pub token_text : Token → List ℕ
token_text (word w) = w
token_text (number n) = decimal_text n
token_text (hex n) = hex_text n
token_text (digits bytes) = flat_map byte_text bytes
token_text (counters ns) = counters_text ns

-- where a number must stand; a list of counters and the digits of a text are none
abbrev pub is_numeric : Token → Bool
is_numeric (word w) = false
is_numeric (number n) = true
is_numeric (hex n) = true
is_numeric (digits bytes) = false
is_numeric (counters ns) = false

-- a text, blanks included, as tokens: its pieces between the blanks
abbrev pub words_of : List ℕ → List Token
words_of text = map word (slice_split (λ byte. byte == 32) text)
