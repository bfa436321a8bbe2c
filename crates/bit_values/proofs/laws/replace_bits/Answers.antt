use Rattle.bit_values.proofs.PartLaws.{replace_part_bits, replace_low_bits, replace_high_bits, replace_zeros}
use Rattle.bit_values.proofs.laws.replace_bits.Goals as goal

pub returns-clause-part : goal.returns-clause-part
returns-clause-part c = replace_part_bits

pub returns-clause-low : goal.returns-clause-low
returns-clause-low c = replace_low_bits

pub returns-clause-high : goal.returns-clause-high
returns-clause-high c = replace_high_bits

pub returns-clause-zeros : goal.returns-clause-zeros
returns-clause-zeros c = replace_zeros
