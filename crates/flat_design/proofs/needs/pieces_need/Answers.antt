use Rattle.std.proofs.Common.{◌+◌, drop, arith}
use Rattle.std.specs.List.{list_all}
use Rattle.design_meaning.specs.WellTyped.{is_piece}
use Rattle.design_meaning.proofs.ListLaws.{left_true, right_true}
use Rattle.design_state.proofs.Turns.{drop_here}
use Rattle.piece_text.proofs.PiecesIn.{rest_pieces}
use Rattle.flat_design.proofs.needs.pieces_need.Goals as goal

pub loop-piece-preserved : goal.loop-piece-preserved
loop-piece-preserved c =
    let p = c.piece-item.result in
    let rest = drop (c.loop-piece.piece-index + 1) c.args.pieces.now in
    let e = drop_here c.args.pieces.now c.loop-piece.piece-index p c.loop-piece-test.true c.piece-item.is in
    let inv = rw e at c.loop-piece.invariant in
    record {
      needs = λ d of ok.
          let one = c.piece_needs.ensures d of (left_true (is_piece d p) (list_all (is_piece d) rest) (inv.typed d ok)) in
          let all = inv.needs d of ok in
          omega (arith, all, one, c.in_ok-all.ensures);
      typed = λ d ok. right_true (is_piece d p) (list_all (is_piece d) rest) (inv.typed d ok);
      pieces = rest_pieces c.args.state.now p rest inv.pieces;
    }
