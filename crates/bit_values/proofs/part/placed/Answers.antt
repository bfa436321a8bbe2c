use Rattle.std.proofs.Common.{◌∙◌}
use Rattle.bit_values.proofs.BitLemmas.{placed_is}
use Rattle.bit_values.proofs.part.placed.Goals as goal

pub returns-clause-value : goal.returns-clause-value
returns-clause-value c =
    c.reduced.ensures.value
    ∙ rw c.bits_from-above.ensures
    (placed_is c.args.a.width c.args.a.bits c.args.low c.args.part.width c.args.part.bits c.args.a.at_most c.requires c.args.part.fits)
