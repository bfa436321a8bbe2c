use Rattle.bit_values.proofs.SizeLaws.{truncate_bits, truncate_zeros}
use Rattle.bit_values.proofs.laws.truncate_bits.Goals as goal

pub returns-clause-value : goal.returns-clause-value
returns-clause-value c = truncate_bits

pub returns-clause-zeros : goal.returns-clause-zeros
returns-clause-zeros c = truncate_zeros
