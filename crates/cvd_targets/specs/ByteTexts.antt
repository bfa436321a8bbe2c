-- The bytes of a text as words spell them.
use Rattle.std.specs.Prelude.{◌≡◌, ℕ, ◌<◌, false, List, [], ◌∷◌, Option, None, Some, if◌then◌else◌}
use Rattle.std.specs.Str.{bytes_eq}
use Rattle.std.specs.Prelude.{flat_map}
use Rattle.cvd_text.specs.Tokens.{byte_text}
use Rattle.cvd_cursor.specs.Numerals.{is_digit, worth}

-- what a hexadecimal digit counts
abbrev pub digit_of : ℕ → Option ℕ
digit_of byte = if is_digit 16 byte then Some (worth byte) else None

-- the byte of two digits
abbrev pub IsByteOf : ℕ → ℕ → Option ℕ → Type 0
IsByteOf high low (Some byte) = (byte < 256) × (byte_text byte ≡ high ∷ low ∷ [])
IsByteOf high low None = (high < 256) × ((byte : ℕ) → byte < 256 → byte_text byte ≡ high ∷ low ∷ [] → ⊥)

-- the byte that a text begins with; or none, where it begins with none
abbrev pub IsFirst : List ℕ → Option ℕ → Type 0
IsFirst [] byte = Unit {0}
IsFirst (only ∷ []) (Some byte) = ⊥
IsFirst (only ∷ []) None = only < 256
IsFirst (high ∷ low ∷ rest) byte = IsByteOf high low byte

-- the bytes that a word spells; or nothing, where it spells none
abbrev pub Spells : List ℕ → Option (List ℕ) → Type 0
Spells text (Some bytes) = text ≡ flat_map byte_text bytes
Spells text None = (bytes : List ℕ) → bytes_eq text (flat_map byte_text bytes) ≡ false
