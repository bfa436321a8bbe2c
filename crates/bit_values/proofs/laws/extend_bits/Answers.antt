use Rattle.bit_values.proofs.SizeLaws.{extend_bits, extend_zeros, extend_signs}
use Rattle.bit_values.proofs.laws.extend_bits.Goals as goal

pub returns-clause-value : goal.returns-clause-value
returns-clause-value c = extend_bits

pub returns-clause-zeros : goal.returns-clause-zeros
returns-clause-zeros c = extend_zeros

pub returns-clause-signs : goal.returns-clause-signs
returns-clause-signs c = extend_signs
