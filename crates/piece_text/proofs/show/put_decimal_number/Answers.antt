use Rattle.std.proofs.Common.{◌∙◌, ◌++◌, ap, sym, arith}
use Rattle.piece_text.proofs.TextLaws.{length_decimal, decimal_is}
use Rattle.piece_text.proofs.show.put_decimal_number.Goals as goal

pub put_digits-requires-clause-room : goal.put_digits-requires-clause-room
put_digits-requires-clause-room c = omega (arith, c.requires, length_decimal c.args.number c.digit_count-count.result c.digit_count-count.ensures)

pub returns-clause-items : goal.returns-clause-items
returns-clause-items c = c.put_digits.ensures.items ∙ ap (λ xs. c.args.out.now.items
    ++ xs) (sym (decimal_is c.args.number c.digit_count-count.result c.digit_count-count.ensures))
