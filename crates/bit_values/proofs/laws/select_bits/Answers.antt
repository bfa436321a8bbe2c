use Rattle.bit_values.proofs.PartLaws.{select_bits, select_zeros}
use Rattle.bit_values.proofs.laws.select_bits.Goals as goal

pub returns-clause-value : goal.returns-clause-value
returns-clause-value c = select_bits

pub returns-clause-zeros : goal.returns-clause-zeros
returns-clause-zeros c = select_zeros
