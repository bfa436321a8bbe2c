-- Whether a text has a line.
use Rattle.std.proofs.Common.{◌≡◌, true, false, List, [], ◌∷◌, refl}
use Rattle.cvd_text.specs.Pieces.{Piece}
use Rattle.cvd_cursor.specs.Reads.{is_nothing}

pub no_pieces : (ps : List Piece) → is_nothing ps ≡ true → ps ≡ []
no_pieces [] e = refl
no_pieces (p ∷ ps) e = absurd (cc)

pub record Some_pieces (ps : List Piece) : Type 0 where
  pub first : Piece
  pub more : List Piece
  pub split : ps ≡ first ∷ more

pub some_pieces : (ps : List Piece) → is_nothing ps ≡ false → Some_pieces ps
some_pieces [] e = absurd (cc)
some_pieces (p ∷ ps) e = record { first = p; more = ps; split = refl }
