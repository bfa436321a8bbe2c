-- The pieces of the words behind a command (docs/commands.md, "Words").
use Rattle.std.specs.Prelude.{◌≡◌, ℕ, ◌==◌, Bool, true, false, List, [], ◌∷◌, ◌++◌, map, Some, codes}
use Rattle.cov_words.specs.Table.{option_named, is_flag}
use Rattle.cov_words.specs.declared.table.CommandName.{CommandName}
use Rattle.cov_words.specs.declared.table.OptionName.{OptionName}

-- a piece is an option with its value, which is empty where it takes none; or a name
pub data Piece : Type 0 where
  given : OptionName → List ℕ → Piece
  name : List ℕ → Piece

-- a word that begins with '-' and is longer than one byte is an option
abbrev pub is_option : List ℕ → Bool
is_option [] = false
is_option (b ∷ []) = false
is_option (b ∷ c ∷ bs) = b == 45

-- The pieces of the words behind a command. Words that have none by these rules spell no command.
pub data IsCut (c : CommandName) : List (List ℕ) → List Piece → Type 0 where
  no_more : IsCut c [] []
  -- a name
  a_name : {word : List ℕ} {words : List (List ℕ)} {pieces : List Piece}
      → is_option word ≡ false → IsCut c words pieces → IsCut c (word ∷ words) (name word ∷ pieces)
  -- an option of the command that takes no value
  a_flag : {word : List ℕ} {words : List (List ℕ)} {pieces : List Piece} {o : OptionName}
      → option_named c word ≡ Some o → is_flag o ≡ true → IsCut c words pieces → IsCut c (word ∷ words) (given o [] ∷ pieces)
  -- an option that takes a value, and the next word, whatever it is
  with_next : {word value : List ℕ} {words : List (List ℕ)} {pieces : List Piece} {o : OptionName}
      → option_named c word ≡ Some o → is_flag o ≡ false → IsCut c words pieces → IsCut c (word ∷ value ∷ words) (given o value ∷ pieces)
  -- the same, with `=` and the value in its own word
  with_value : {word value : List ℕ} {words : List (List ℕ)} {pieces : List Piece} {o : OptionName} (before : List ℕ)
      → word ≡ before ++ codes "=" ++ value → option_named c before ≡ Some o → is_flag o ≡ false
      → IsCut c words pieces → IsCut c (word ∷ words) (given o value ∷ pieces)
  -- behind `--` every word is a name
  only_names : {word : List ℕ} {words : List (List ℕ)} → word ≡ codes "--" → IsCut c (word ∷ words) (map name words)
