use Rattle.std.proofs.Common.{◌∙◌}
use Rattle.bit_values.proofs.Widths.{sub_wide}
use Rattle.bit_values.proofs.arithmetic.sub.Goals as goal

pub returns-clause-value : goal.returns-clause-value
returns-clause-value c = c.reduced.ensures.value
    ∙ sub_wide c.args.a.bits c.args.b.bits c.args.a.width c.args.a.at_most c.args.a.fits (rw c.requires c.args.b.fits)
