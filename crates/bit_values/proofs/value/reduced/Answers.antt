use Rattle.std.proofs.Common.{◌^◌}
use Rattle.std.proofs.lemmas.Nat.{mod_below, pow_pos}
use Rattle.bit_values.proofs.Widths.{masked_is}
use Rattle.bit_values.proofs.value.reduced.Goals as goal

pub invariant_of-result-clause-fits : goal.invariant_of-result-clause-fits
invariant_of-result-clause-fits c = rw (masked_is c.args.number c.args.width c.requires.at_most)
    (mod_below c.args.number (2 ^ c.args.width) (pow_pos c.args.width))

pub returns-clause-value : goal.returns-clause-value
returns-clause-value c = masked_is c.args.number c.args.width c.requires.at_most
