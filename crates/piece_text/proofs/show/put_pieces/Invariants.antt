use Rattle.std.proofs.Common.{◌≡◌, ◌≤◌, ◌+◌, ◌++◌, length, drop, vec_len, vec_capacity}
use Rattle.std.specs.Prelude.{flat_map}
use Rattle.design_meaning.specs.Texts.{piece_text}
use Rattle.piece_text.specs.Pieces.{ArePiecesIn}
use Rattle.piece_text.proofs.show.put_pieces.Given as goal

abbrev pub invariant-loop-piece : goal.invariant-loop-piece
invariant-loop-piece l =
    let rest = drop l.piece-index l.pieces in
    record {
      items : l.out.items ++ flat_map (piece_text l.state) rest ≡ l.fn.out.items ++ flat_map (piece_text l.state) l.pieces;
      pieces : ArePiecesIn l.state rest;
      room : vec_len l.out + length (flat_map (piece_text l.state) rest) ≤ vec_capacity l.out;
      capacity : vec_capacity l.fn.out ≤ vec_capacity l.out;
    }
