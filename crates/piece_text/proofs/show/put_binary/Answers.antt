use Rattle.std.proofs.Common.{◌-◌, ◌<◌, ◌^◌, sym, subst}
use Rattle.piece_text.proofs.TextLaws.{two_power}
use Rattle.piece_text.proofs.show.put_binary.Goals as goal

pub put_number-requires-clause-fits : goal.put_number-requires-clause-fits
put_number-requires-clause-fits c = subst (λ k. 2 ^ (k - 1) < 2 ^ 128) (sym c.from.ensures) (two_power c.args.of.width c.args.of.at_least c.args.of.at_most)
