-- Keys of the data file: what tells one coverage point from another.
use Rattle.std.specs.Prelude.{◌≡◌, ℕ, ◌<◌, ◌==◌, ◌||◌, Bool, false, List, ◌∷◌, ◌++◌, length}
use Rattle.std.specs.List.{flat_map, AllByRecursion}

-- the bytes that neither a name nor a value has: 1 and 2, which begin them, and the line feed
abbrev pub is_mark : ℕ → Bool
is_mark byte = byte == 1 || (byte == 2 || byte == 10)

-- a text without marks
abbrev pub IsPlain : List ℕ → Type 0
IsPlain bytes = AllByRecursion (λ byte. is_mark byte ≡ false) bytes

-- a field is a name of at least one byte and a value
abbrev pub IsField : List ℕ × List ℕ → Type 0
IsField field = (0 < length field.0) × IsPlain field.0 × IsPlain field.1

-- a field is spelt by byte 1, its name, byte 2 and its value
abbrev pub field_text : List ℕ × List ℕ → List ℕ
field_text field = 1 ∷ field.0 ++ 2 ∷ field.1

-- a key is one or more fields, one after the other
abbrev pub IsKey : List ℕ → Type 0
IsKey key = (fields : List (List ℕ × List ℕ)) × (0 < length fields) × AllByRecursion IsField fields × (key ≡ flat_map field_text fields)
