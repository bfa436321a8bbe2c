use Rattle.bit_values.proofs.BitLemmas.{bits_from_past}
use Rattle.bit_values.proofs.part.bits_from.Goals as goal

pub returns-then-low-ge128 : goal.returns-then-low-ge128
returns-then-low-ge128 c = bits_from_past c.args.bits c.args.low c.ranges.bits.fits c.if-low-ge128.true
