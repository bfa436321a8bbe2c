-- What contracts see of borrowed pieces.
use Rattle.cov_words.specs.Cut.{Piece, given, name}
use Rattle.cov_words.specs.Pieces.{Opening, whole, waiting}
use Rattle.cov_words.specs.declared.piece.Opening.{Opening as BorrowedOpening}
use Rattle.cov_words.specs.declared.piece.Opening.TheVariants.{Whole, Waiting}
use Rattle.cov_words.specs.declared.piece.Piece.{Piece as BorrowedPiece}
use Rattle.cov_words.specs.declared.piece.Piece.TheVariants.{Given, Name}

-- a borrowed piece as lists of bytes
abbrev pub seen_piece : BorrowedPiece → Piece
seen_piece (Given o value) = given o value.now
seen_piece (Name text) = name text.now

abbrev pub seen_opening : BorrowedOpening → Opening
seen_opening (Whole piece) = whole (seen_piece piece)
seen_opening (Waiting o) = waiting o
