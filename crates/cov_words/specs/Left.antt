-- The pieces that are left, of the words that are.
use Rattle.std.specs.Prelude.{◌≡◌, ◌<◌, ℕ, Bool, List, [], Option, None, Some, map, length, string_bytes, if◌then◌else◌}
use Rattle.cov_words.specs.Cut.{Piece, name}
use Rattle.cov_words.specs.Pieces.{behind, pieces_of}
use Rattle.cov_words.specs.Seen.{seen_piece}
use Rattle.cov_words.specs.declared.front.Front.{Front}
use Rattle.cov_words.specs.declared.front.Front.TheVariants.{End, Refused, Next}
use Rattle.cov_words.specs.declared.table.CommandName.{CommandName}

-- the pieces of words, which are names alone behind a `--`
abbrev pub pieces_left : CommandName → Bool → List (List ℕ) → Option (List Piece)
pieces_left c only_names words = if only_names then Some (map name words) else pieces_of c words

-- what words begin with
abbrev pub IsFront : CommandName → Bool → List (List ℕ) → Front → Type 0
IsFront c only_names words End = pieces_left c only_names words ≡ Some []
IsFront c only_names words Refused = pieces_left c only_names words ≡ None
IsFront c only_names words (Next piece rest names) =
    (pieces_left c only_names words ≡ behind (seen_piece piece) (pieces_left c names (map string_bytes rest.now)))
    × (length (map string_bytes rest.now) < length words)
