-- How tokens are spelled, and which token a spelling is (IEEE 1364-2005, 3.5 to 3.7).
use Rattle.std.specs.Prelude.{◌≡◌, ℕ, ◌+◌, ◌==◌, ◌&&◌, ◌^◌, ◌<◌, ◌≤◌, ◌≢◌, Bool, true, false, List, [], ◌∷◌, ◌++◌, Some, codes, length, nat_eq, if◌then◌else◌}
use Rattle.std.specs.Char.{is_ascii_digit}
use Rattle.std.specs.List.{list_all, starts_with}
use Rattle.vlog_lexer.specs.Bytes.{continues_decimal, continues_digits}
use Rattle.vlog_lexer.specs.Numbers.{based_numeral, base_of, counted, number_value, size_of}
use Rattle.vlog_lexer.specs.Pieces.{Front, front_of, number_front, piece, refusal, word_or_name}
use Rattle.vlog_lexer.specs.Texts.{escaped, is_plain}
use Rattle.vlog_lexer.specs.declared.piece.Flaw.TheVariants as flaw
use Rattle.vlog_lexer.specs.declared.piece.Meaning.TheVariants.{Token}
use Rattle.vlog_tokens.specs.declared.token.TokenKind.TheVariants as k
use Rattle.vlog_words.specs.Identifier.{is_spelled}
use Rattle.vlog_words.specs.Names.{begins_with_name, continues_name}
use Rattle.vlog_words.specs.Words.{word_of}

-- a text whose first byte doesn't pass: with it nothing before goes on
abbrev pub StopsAt : (ℕ → Bool) → List ℕ → Type 0
StopsAt goes_on [] = Unit {0}
StopsAt goes_on (b ∷ rest) = goes_on b ≡ false

-- ---- identifiers

-- what the whole identifier at a place means: it is refused where it begins with `cov$`, else it is a reserved word or a name
abbrev pub identifier_means : List ℕ → Front
identifier_means name =
    if starts_with nat_eq name (codes "cov$") then refusal flaw.ReservedName 0
    else piece (Token (word_or_name (word_of name) name)) (length name)

-- an identifier, with nothing behind it that would go on with it, is what it means
abbrev pub NamesAreTaken : Type 0
NamesAreTaken = (name rest : List ℕ) → is_spelled name ≡ true → StopsAt continues_name rest → front_of (name ++ rest) ≡ identifier_means name

-- where an identifier begins, the text is one and what follows, with nothing that would go on with it
pub record HasLongestName (text : List ℕ) : Type 0 where
  pub name : List ℕ
  pub rest : List ℕ
  pub split : text ≡ name ++ rest
  pub spelled : is_spelled name ≡ true
  pub stops : StopsAt continues_name rest

abbrev pub NamesAreLongest : Type 0
NamesAreLongest = (text : List ℕ) → begins_with_name text ≡ true → HasLongestName text

-- a `$` and an identifier
abbrev pub SystemNamesAreTaken : Type 0
SystemNamesAreTaken =
    (name rest : List ℕ) → is_spelled name ≡ true → StopsAt continues_name rest
    → front_of (36 ∷ (name ++ rest)) ≡ piece (Token (k.System (36 ∷ name))) (1 + length name)

-- ---- strings

-- The text between the quotes spells these bytes: each byte stands for itself, or a backslash and a letter stand for it.
pub data Spells : List ℕ → List ℕ → Type 0 where
  all_spelled : Spells [] []
  itself : (b : ℕ) (text bytes : List ℕ) → is_plain b ≡ true → b ≢ 34 → Spells text bytes → Spells (b ∷ text) (b ∷ bytes)
  escape : (c d : ℕ) (text bytes : List ℕ) → escaped c ≡ Some d → Spells text bytes → Spells (92 ∷ (c ∷ text)) (d ∷ bytes)

-- a spelled string between quotes is the token of its bytes
abbrev pub StringsAreTaken : Type 0
StringsAreTaken =
    (text bytes rest : List ℕ) → Spells text bytes
    → front_of (34 ∷ (text ++ 34 ∷ rest)) ≡ piece (Token (k.Text bytes)) (length text + 2)

-- ---- numbers

-- a digit, and then digits and underscores
abbrev pub is_decimal : List ℕ → Bool
is_decimal [] = false
is_decimal (b ∷ bytes) = is_ascii_digit b && list_all continues_decimal bytes

-- no byte with which a plain decimal would go on, or with which it would be a size
abbrev pub ends_decimal : ℕ → Bool
ends_decimal b = if continues_decimal b then true else b == 39

-- a plain decimal below 2 ^ 32 is a signed number of 32 bits
abbrev pub DecimalsAreTaken : Type 0
DecimalsAreTaken =
    (digits rest : List ℕ) → is_decimal digits ≡ true → StopsAt ends_decimal rest → number_value 10 digits < 2 ^ 32
    → front_of (digits ++ rest) ≡ piece (Token (k.Number 32 true (number_value 10 digits) 0)) (length digits)

-- any other is too wide
abbrev pub WideDecimals : Type 0
WideDecimals =
    (digits rest : List ℕ) → is_decimal digits ≡ true → StopsAt ends_decimal rest → 2 ^ 32 ≤ number_value 10 digits
    → front_of (digits ++ rest) ≡ refusal flaw.NumberTooWide 0

-- the size of a based number, which it may lack
pub data IsSize : List ℕ → Type 0 where
  no_size : IsSize []
  a_size : (digits : List ℕ) → is_decimal digits ≡ true → IsSize digits

-- the letter of a signed number
pub data IsSign : List ℕ → Bool → Type 0 where
  no_sign : IsSign [] false
  small_s : IsSign (115 ∷ []) true
  large_s : IsSign (83 ∷ []) true

-- a based number's spelling: its size, a quote, its sign, the letter of its base, and its digits
abbrev pub based_text : List ℕ → List ℕ → ℕ → List ℕ → List ℕ
based_text size sign letter digits = size ++ 39 ∷ (sign ++ letter ∷ digits)

-- A based number is what its size, sign, base and digits say: each part counts as it stands, and the run of digits is taken whole.
abbrev pub BasedAreTaken : Type 0
BasedAreTaken =
    (size sign digits rest : List ℕ) (letter base : ℕ) (signed : Bool) → IsSize size → IsSign sign signed → base_of letter ≡ Some base
    → list_all continues_digits digits ≡ true → StopsAt continues_digits rest
    → front_of (based_text size sign letter digits ++ rest)
    ≡ number_front (counted (length (based_text size sign letter digits)) (based_numeral (size_of size) signed base digits))
