use Rattle.std.proofs.Common.{◌∷◌, [], codes, length, flat_map}
use Rattle.cvd_text.specs.Targets.{piece_tokens}
use Rattle.cvd_text.specs.Tokens.{number}
use Rattle.cvd_write.proofs.Puts.{put_row, then_tokens}
use Rattle.cvd_write.proofs.step.show_line.Goals as goal

pub returns : goal.returns
returns c =
    let pieces = c.args.pieces.now in
    let some = flat_map piece_tokens pieces in
    put_row _ (codes "show") (number (length pieces) ∷ some) c.put.new.self c.all_pieces.new.out _ _ c.in_ok-put.ensures
    (then_tokens _ (number (length pieces) ∷ []) some c.number.new.self _ c.in_ok-number.ensures c.in_ok-all_pieces.ensures) c.end.ensures
