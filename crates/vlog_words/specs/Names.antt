-- The bytes of identifiers (IEEE 1364-2005, 3.7).
use Rattle.std.specs.Prelude.{ℕ, ◌==◌, ◌||◌, Bool, false, List, [], ◌∷◌}
use Rattle.std.specs.Char.{is_ascii_alphabetic, is_ascii_alphanumeric}

-- what an identifier begins with: a letter or `_`
unfoldable pub begins_name : ℕ → Bool
begins_name b = is_ascii_alphabetic b || b == 95

-- and what follows: letters, digits, `_` and `$`
unfoldable pub continues_name : ℕ → Bool
continues_name b = is_ascii_alphanumeric b || b == 95 || b == 36

-- whether a text begins with what an identifier begins with
unfoldable pub begins_with_name : List ℕ → Bool
begins_with_name [] = false
begins_with_name (b ∷ text) = begins_name b
