use Rattle.bit_values.proofs.BitLemmas.{joined, concat_fits}
use Rattle.bit_values.proofs.size.concat.Goals as goal

pub invariant_of-result-clause-fits : goal.invariant_of-result-clause-fits
invariant_of-result-clause-fits c =
    rw (joined c.args.high.bits c.args.low.bits c.args.high.width c.args.low.width c.args.high.fits c.args.low.fits c.requires)
    (concat_fits c.args.high.bits c.args.low.bits c.args.high.width c.args.low.width c.args.high.fits c.args.low.fits)

pub returns-clause-value : goal.returns-clause-value
returns-clause-value c = joined c.args.high.bits c.args.low.bits c.args.high.width c.args.low.width c.args.high.fits c.args.low.fits c.requires
