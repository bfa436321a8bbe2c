-- Patterns of types (docs/commands.md, "cover": `--filter-type`).
use Rattle.std.specs.Prelude.{ℕ, ◌==◌, ◌&&◌, ◌||◌, Bool, true, false, List, [], ◌∷◌, if◌then◌else◌}
use Rattle.std.specs.List.{list_any}
use Rattle.cov_dat.specs.KeyFields.{kind}

-- a text and all that is left of it at its places, the last being empty
abbrev pub tails : List ℕ → List (List ℕ)
tails [] = [] ∷ []
tails (b ∷ bs) = (b ∷ bs) ∷ tails bs

-- a text that begins with any byte, or with this one, and goes on so
abbrev pub begins : ℕ → (List ℕ → Bool) → List ℕ → Bool
begins c rest [] = false
begins c rest (b ∷ bs) = (c == 63 || c == b) && rest bs

abbrev pub is_empty : List ℕ → Bool
is_empty [] = true
is_empty (b ∷ bs) = false

-- whether a pattern spells a whole text: `*` any run of bytes, `?` any one byte, and each other byte itself
abbrev pub spells : List ℕ → List ℕ → Bool
spells [] text = is_empty text
spells (c ∷ pattern) text = if c == 42 then list_any (spells pattern) (tails text) else begins c (spells pattern) text

-- a key is kept where the pattern spells its type
abbrev pub is_kept : List ℕ → List ℕ → Bool
is_kept key pattern = spells pattern (kind key)
