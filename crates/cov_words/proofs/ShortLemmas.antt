-- How many pieces words have.
use Rattle.std.proofs.Common.{ℕ, suc, ◌≤◌, List, [], ◌∷◌, Option, None, Some, map, length, arith}
use Rattle.std.specs.Prelude.{IfSome, codes}
use Rattle.std.proofs.lemmas.Bool.{cond_both}
use Rattle.std.proofs.lemmas.List.{length-map}
use Rattle.std.specs.Option.{unwrap_or}
use Rattle.std.specs.Str.{bytes_eq}
use Rattle.cov_words.specs.Command.{names_of}
use Rattle.cov_words.specs.Cut.{Piece, given, name}
use Rattle.cov_words.specs.Pieces.{Opening, whole, waiting, behind, opened, opening, cut}
use Rattle.cov_words.specs.declared.table.CommandName.{CommandName}
use Rattle.cov_words.specs.declared.table.OptionName.{OptionName}

-- at most so many pieces, if there are any
abbrev pub IsShort : ℕ → Option (List Piece) → Type 0
IsShort n pieces = IfSome pieces (λ (ps : List Piece). length ps ≤ n)

behind-short : (n : ℕ) (piece : Piece) (rest : Option (List Piece)) → IsShort n rest → IsShort (suc n) (behind piece rest)
behind-short n piece None h = tt
behind-short n piece (Some pieces) h = omega arith

opened-short : (n : ℕ) (rest : Option (List Piece)) (wait : OptionName → Option (List Piece)) (begun : Option Opening) → IsShort n rest → ((o : OptionName)
    → IsShort (suc n) (wait o)) → IsShort (suc n) (opened rest wait begun)
opened-short n rest wait None h k = tt
opened-short n rest wait (Some (whole piece)) h k = behind-short n piece rest h
opened-short n rest wait (Some (waiting o)) h k = k o

weaker : (n : ℕ) (pieces : Option (List Piece)) → IsShort n pieces → IsShort (suc n) pieces
weaker n None h = tt
weaker n (Some pieces) h = omega arith

pub cut-short : (c : CommandName) (wait : Option OptionName) (words : List (List ℕ)) → IsShort (length words) (cut c wait words)
cut-short c None [] = omega arith
cut-short c (Some o) [] = tt
cut-short c (Some o) (value ∷ words) = behind-short (length words) (given o value) (cut c None words) (cut-short c None words)
cut-short c None (word ∷ words) =
    cond_both (bytes_eq word (codes "--")) (Some (map name words)) (opened (cut c None words) (λ o. cut c (Some o) words) (opening c word))
    (IsShort (suc (length words)))
    (λ _. omega (arith, length-map words name))
    (λ _. opened-short (length words) (cut c None words) (λ o. cut c (Some o) words) (opening c word) (cut-short c None words)
    (λ o. weaker (length words) (cut c (Some o) words) (cut-short c (Some o) words)))

short_or : (n : ℕ) (pieces : Option (List Piece)) → IsShort n pieces → length (unwrap_or pieces []) ≤ n
short_or n None h = omega arith
short_or n (Some pieces) h = h

-- words have at most as many pieces as there are words
pub pieces-short : (c : CommandName) (words : List (List ℕ)) → length (unwrap_or (cut c None words) []) ≤ length words
pieces-short c words = short_or (length words) (cut c None words) (cut-short c None words)

-- and at most as many names as pieces
pub names-short : (pieces : List Piece) → length (names_of pieces) ≤ length pieces
names-short [] = omega arith
names-short (given o value ∷ pieces) = let l = names-short pieces in omega arith
names-short (name text ∷ pieces) = let l = names-short pieces in omega arith
