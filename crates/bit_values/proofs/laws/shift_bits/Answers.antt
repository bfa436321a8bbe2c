use Rattle.bit_values.proofs.SizeLaws.{shl_zeros, shl_bits, shr_bits, sar_bits, sar_signs}
use Rattle.bit_values.proofs.laws.shift_bits.Goals as goal

pub returns-clause-shl_zeros : goal.returns-clause-shl_zeros
returns-clause-shl_zeros c = shl_zeros

pub returns-clause-shl_value : goal.returns-clause-shl_value
returns-clause-shl_value c = shl_bits

pub returns-clause-shr_value : goal.returns-clause-shr_value
returns-clause-shr_value c = shr_bits

pub returns-clause-sar_value : goal.returns-clause-sar_value
returns-clause-sar_value c = sar_bits

pub returns-clause-sar_signs : goal.returns-clause-sar_signs
returns-clause-sar_signs c = sar_signs
