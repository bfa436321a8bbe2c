use Rattle.std.proofs.Common.{◌∙◌}
use Rattle.bit_values.proofs.Widths.{not_wide}
use Rattle.bit_values.proofs.bitwise.not.Goals as goal

pub returns-clause-value : goal.returns-clause-value
returns-clause-value c = c.reduced.ensures.value ∙ not_wide c.args.a.bits c.args.a.width c.args.a.at_most c.args.a.fits
