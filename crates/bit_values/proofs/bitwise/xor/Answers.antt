use Rattle.std.proofs.lemmas.Nat.{xor_lt}
use Rattle.bit_values.proofs.bitwise.xor.Goals as goal

pub invariant_of-result-clause-fits : goal.invariant_of-result-clause-fits
invariant_of-result-clause-fits c = xor_lt c.args.a.width c.args.a.bits c.args.b.bits c.args.a.fits (rw c.requires c.args.b.fits)
