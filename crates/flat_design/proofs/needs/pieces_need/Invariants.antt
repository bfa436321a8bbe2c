use Rattle.std.proofs.Common.{◌≡◌, ◌+◌, IsTrue, map, drop}
use Rattle.std.specs.List.{list_all}
use Rattle.design_tree.specs.declared.design.Design.{Design}
use Rattle.circuit_run.specs.Lists.{total}
use Rattle.design_meaning.specs.States.{IsStateOf}
use Rattle.design_meaning.specs.WellTyped.{is_piece}
use Rattle.design_meaning.specs.Mentions.{piece_length}
use Rattle.piece_text.specs.Pieces.{ArePiecesIn}
use Rattle.flat_design.proofs.needs.pieces_need.Given as goal

abbrev pub invariant-loop-piece : goal.invariant-loop-piece
invariant-loop-piece l =
    let rest = drop l.piece-index l.pieces in
    record {
      needs : (d : Design) → IsStateOf d l.state → IsTrue (list_all (is_piece d) l.pieces)
          → l.all + total (map (piece_length d) rest) ≡ total (map (piece_length d) l.pieces);
      typed : (d : Design) → IsTrue (list_all (is_piece d) l.pieces) → IsTrue (list_all (is_piece d) rest);
      pieces : ArePiecesIn l.state rest;
    }
