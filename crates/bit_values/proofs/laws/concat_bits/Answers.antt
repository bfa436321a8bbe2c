use Rattle.bit_values.proofs.SizeLaws.{concat_low_bits, concat_high_bits}
use Rattle.bit_values.proofs.laws.concat_bits.Goals as goal

pub returns-clause-low : goal.returns-clause-low
returns-clause-low c = concat_low_bits

pub returns-clause-high : goal.returns-clause-high
returns-clause-high c = concat_high_bits
