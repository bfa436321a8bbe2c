use Rattle.piece_text.proofs.TextLaws.{length_decimal}
use Rattle.piece_text.proofs.show.decimal_length.Goals as goal

pub returns-clause-value : goal.returns-clause-value
returns-clause-value c = length_decimal c.args.number c.digit_count.result c.digit_count.ensures
