-- The pieces of the words behind a command, computed: `pieces_are_the_cut` says that they are those of `IsCut`.
use Rattle.std.specs.Prelude.{ℕ, ◌==◌, List, [], ◌∷◌, map, Option, None, Some, codes, option_map, option_and_then, if◌then◌else◌}
use Rattle.std.specs.Str.{bytes_eq}
use Rattle.cov_words.specs.Table.{option_named, is_flag}
use Rattle.cov_words.specs.Cut.{Piece, given, name, is_option}
use Rattle.cov_words.specs.declared.table.CommandName.{CommandName}
use Rattle.cov_words.specs.declared.table.OptionName.{OptionName}

-- what stands before the first '=' of a word, and what stands after it
abbrev pub at_equal_sign : List ℕ → Option (List ℕ × List ℕ)
at_equal_sign [] = None
at_equal_sign (b ∷ bs) = if b == 61 then Some ([], bs) else option_map (λ p. (b ∷ p.0, p.1)) (at_equal_sign bs)

-- what a word begins: a whole piece, or an option that waits for its value
pub data Opening : Type 0 where
  whole : Piece → Opening
  waiting : OptionName → Opening

-- an option that is a word of its own
abbrev pub alone : OptionName → Opening
alone o = if is_flag o then whole (given o []) else waiting o

-- an option and its value in one word: a flag takes none
abbrev pub together : List ℕ → OptionName → Option Opening
together value o = if is_flag o then None else Some (whole (given o value))

abbrev pub parted : CommandName → Option (List ℕ × List ℕ) → Option Opening
parted c None = None
parted c (Some p) = option_and_then (together p.1) (option_named c p.0)

abbrev pub option_opening : CommandName → List ℕ → Option OptionName → Option Opening
option_opening c word None = parted c (at_equal_sign word)
option_opening c word (Some o) = Some (alone o)

-- what a word begins in a command, if it may stand there
abbrev pub opening : CommandName → List ℕ → Option Opening
opening c word = if is_option word then option_opening c word (option_named c word) else Some (whole (name word))

abbrev pub behind : Piece → Option (List Piece) → Option (List Piece)
behind piece rest = option_map (λ pieces. piece ∷ pieces) rest

-- The pieces from an opening on. Behind a whole piece stand those of the rest; an option that waits has its value there.
abbrev pub opened : Option (List Piece) → (OptionName → Option (List Piece)) → Option Opening → Option (List Piece)
opened rest wait None = None
opened rest wait (Some (whole piece)) = behind piece rest
opened rest wait (Some (waiting o)) = wait o

-- the pieces of words, the first of which is the value of the option that waits for one
abbrev pub cut : CommandName → Option OptionName → List (List ℕ) → Option (List Piece)
cut c None [] = Some []
cut c (Some o) [] = None
cut c (Some o) (value ∷ words) = behind (given o value) (cut c None words)
cut c None (word ∷ words) =
    if bytes_eq word (codes "--") then Some (map name words)
    else opened (cut c None words) (λ o. cut c (Some o) words) (opening c word)

-- the pieces of the words behind a command, if they have pieces
abbrev pub pieces_of : CommandName → List (List ℕ) → Option (List Piece)
pieces_of c words = cut c None words
