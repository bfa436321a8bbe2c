-- How many digits a number has without leading zeros.
use Rattle.std.specs.Prelude.{◌≡◌, ℕ, ◌-◌, ◌<◌, ◌≤◌, ◌^◌, ◌⊎◌, Bool, true, false, List}
use Rattle.circuit_run.specs.Digits.{digits, trimmed, to_the_right, decimal_columns, decimal_text}
use Rattle.design_meaning.specs.Texts.{dec_text}
use Rattle.design_meaning.specs.Values.{of_width}

-- so many digits hold it, and no fewer, but for 0, which has one
pub record IsDigitCount (base most n count : ℕ) : Type 0 where
  pub some : 1 ≤ count
  pub few : count ≤ most
  pub hold : n < base ^ count
  pub least : (count ≡ 1) ⊎ (base ^ (count - 1) ≤ n)

-- a number in a base with so many digits, or in short form without leading zeros
abbrev pub spelled : Bool → ℕ → ℕ → ℕ → List ℕ
spelled true base columns n = trimmed (digits base columns n)
spelled false base columns n = digits base columns n

-- a number in decimal; a value of a width in decimal, read as signed or not; and the columns that hold each value of a width
unfoldable pub decimal_of : ℕ → List ℕ
decimal_of n = decimal_text n

unfoldable pub value_text : Bool → ℕ → ℕ → List ℕ
value_text is_signed w n = dec_text is_signed (of_width w n)

unfoldable pub columns_for : Bool → ℕ → ℕ
columns_for is_signed w = decimal_columns is_signed w

-- a value in decimal, in its columns or in short form
abbrev pub decimal_piece : Bool → Bool → ℕ → ℕ → List ℕ
decimal_piece is_signed true w n = value_text is_signed w n
decimal_piece is_signed false w n = to_the_right (columns_for is_signed w) (value_text is_signed w n)
