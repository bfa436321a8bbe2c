use Rattle.piece_text.proofs.TextLaws.{hex_bounds}
use Rattle.piece_text.proofs.show.hex_digits.Goals as goal

pub returns-clause-some : goal.returns-clause-some
returns-clause-some c = rw c.from.ensures (hex_bounds c.args.width c.requires.some c.requires.most).0

pub returns-clause-most : goal.returns-clause-most
returns-clause-most c = rw c.from.ensures (hex_bounds c.args.width c.requires.some c.requires.most).1
