-- All operators and marks.
use Rattle.std.specs.Prelude.{◌≡◌, ℕ, List, [], ◌∷◌, ◌++◌, ◌⊎◌}
use Rattle.vlog_words.specs.Symbols.{of_one, of_three, of_two}
use Rattle.vlog_words.specs.Words.{Table}
use Rattle.vlog_tokens.specs.declared.token.TokenKind.{TokenKind}

-- the operators and marks, whatever their length
abbrev pub symbols : Table TokenKind
symbols = of_three ++ (of_two ++ of_one)

-- the table has this entry
abbrev pub IsIn : Table TokenKind → List ℕ × TokenKind → Type 0
IsIn [] entry = ⊥
IsIn (first ∷ table) entry = (entry ≡ first) ⊎ IsIn table entry
