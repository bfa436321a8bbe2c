-- The pieces behind a piece.
use Rattle.std.proofs.Common.{◌≡◌, ◌<◌, true, List, [], ◌∷◌, Option, None, Some, length, is_some, refl, sym, ◌∙◌, ap, arith}
use Rattle.std.specs.Option.{unwrap_or}
use Rattle.std.proofs.lemmas.Bool.{false≢true}
use Rattle.cov_words.specs.Cut.{Piece}
use Rattle.cov_words.specs.Pieces.{behind}

pub is_some-behind : (piece : Piece) (rest : Option (List Piece)) → is_some (behind piece rest) ≡ is_some rest
is_some-behind piece None = refl
is_some-behind piece (Some pieces) = refl

-- words that have pieces have those of the rest behind the first
pub pieces-behind : (piece : Piece) (rest : Option (List Piece)) → is_some (behind piece rest) ≡ true
    → unwrap_or (behind piece rest) [] ≡ piece ∷ unwrap_or rest []
pieces-behind piece None h = absurd (false≢true h)
pieces-behind piece (Some pieces) h = refl

pub rest-is_some : (piece : Piece) (all rest : Option (List Piece)) → all ≡ behind piece rest → is_some all ≡ true → is_some rest ≡ true
rest-is_some piece all rest e h = sym (ap is_some e ∙ is_some-behind piece rest) ∙ h

pub first-and-rest : (piece : Piece) (all rest : Option (List Piece)) → all ≡ behind piece rest → is_some all ≡ true
    → unwrap_or all [] ≡ piece ∷ unwrap_or rest []
first-and-rest piece all rest e h = ap (λ (o : Option (List Piece)). unwrap_or o []) e ∙ pieces-behind piece rest (sym (ap is_some e) ∙ h)

pub rest-is_shorter : (piece : Piece) (all rest : List Piece) → all ≡ piece ∷ rest → length rest < length all
rest-is_shorter piece all rest e = let n = ap length e in omega arith
