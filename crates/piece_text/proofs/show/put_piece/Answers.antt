use Rattle.std.proofs.Common.{◌∙◌, ◌+◌, ◌++◌, ◌≤◌, ap, sym, subst, length, vec_len, vec_capacity}
use Rattle.piece_text.proofs.PiecesIn.{dec_text_is}
use Rattle.piece_text.proofs.show.put_piece.Goals as goal

pub put_decimal-requires : goal.put_decimal-requires
put_decimal-requires c =
    let v = c.value.result in
    let room = rw c.in-Dec.is at c.requires.room in
    subst (λ text. vec_len c.args.out.now + length text ≤ vec_capacity c.args.out.now)
    (dec_text_is c.args.state.now c.in-Dec.signed c.in-Dec.short c.in-Dec.e v.width v.bits c.value.ensures) room

pub returns-in-Dec-clause-items : goal.returns-in-Dec-clause-items
returns-in-Dec-clause-items c =
    let v = c.value.result in
    rw c.in-Dec.is (c.put_decimal.ensures.items ∙ ap (λ text. c.args.out.now.items
    ++ text) (sym (dec_text_is c.args.state.now c.in-Dec.signed c.in-Dec.short c.in-Dec.e v.width v.bits c.value.ensures)))
