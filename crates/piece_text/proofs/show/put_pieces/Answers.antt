use Rattle.std.proofs.Common.{◌∙◌, ◌+◌, ◌++◌, ap, append_assoc, drop, arith}
use Rattle.std.specs.Prelude.{flat_map}
use Rattle.std.proofs.lemmas.Grind.{common_steps}
use Rattle.std.proofs.lemmas.List.{length-append}
use Rattle.design_meaning.specs.Texts.{piece_text}
use Rattle.design_state.proofs.Turns.{drop_here}
use Rattle.piece_text.proofs.PiecesIn.{first_piece, rest_pieces}
use Rattle.piece_text.proofs.show.put_pieces.Goals as goal

pub put_piece-requires : goal.put_piece-requires
put_piece-requires c =
    let s = c.args.state.now in
    let p = c.piece-item.result in
    let rest = drop (c.loop-piece.piece-index + 1) c.args.pieces.now in
    let e = drop_here c.args.pieces.now c.loop-piece.piece-index p c.loop-piece-test.true c.piece-item.is in
    let inv = rw e at c.loop-piece.invariant in
    record {
      piece = first_piece s p rest inv.pieces;
      room = omega (arith, inv.room, length-append (piece_text s p) (flat_map (piece_text s) rest));
    }

pub loop-piece-preserved : goal.loop-piece-preserved
loop-piece-preserved c =
    let s = c.args.state.now in
    let p = c.piece-item.result in
    let rest = drop (c.loop-piece.piece-index + 1) c.args.pieces.now in
    let e = drop_here c.args.pieces.now c.loop-piece.piece-index p c.loop-piece-test.true c.piece-item.is in
    let inv = rw e at c.loop-piece.invariant in
    let more = flat_map (piece_text s) rest in
    record {
      items = ap (λ xs. xs ++ more) c.put_piece.ensures.items ∙ append_assoc c.loop-piece.out.items (piece_text s p) more ∙ inv.items;
      pieces = rest_pieces s p rest inv.pieces;
      room = grind (arith, common_steps, inv.room, c.put_piece.ensures.items, c.put_piece.ensures.capacity, length-append (piece_text s p) more);
      capacity = omega (arith, inv.capacity, c.put_piece.ensures.capacity);
    }
