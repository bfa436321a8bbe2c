use Rattle.std.proofs.Common.{◌∙◌, ◌+◌}
use Rattle.bit_values.proofs.Widths.{mod_wide}
use Rattle.bit_values.proofs.arithmetic.add.Goals as goal

pub returns-clause-value : goal.returns-clause-value
returns-clause-value c = c.reduced.ensures.value ∙ mod_wide (c.args.a.bits + c.args.b.bits) c.args.a.width c.args.a.at_most
