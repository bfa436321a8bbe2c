use Rattle.bit_values.proofs.Widths.{wider}
use Rattle.bit_values.proofs.size.widened.Goals as goal

pub invariant_of-result-clause-fits : goal.invariant_of-result-clause-fits
invariant_of-result-clause-fits c = wider c.args.a.bits c.args.a.width c.args.width c.args.a.fits c.requires.at_least
