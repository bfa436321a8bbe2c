use Rattle.cvd_laws.proofs.Pieces.{apart_piece}
use Rattle.cvd_laws.proofs.law.pieces_are_apart.Goals as goal

pub returns : goal.returns
returns c = apart_piece
