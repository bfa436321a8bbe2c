use Rattle.bit_values.proofs.ResultLaws.{red_and_bits, red_or_bits, red_xor_bits}
use Rattle.bit_values.proofs.laws.reduction_bits.Goals as goal

pub returns-clause-and : goal.returns-clause-and
returns-clause-and c = red_and_bits

pub returns-clause-or : goal.returns-clause-or
returns-clause-or c = red_or_bits

pub returns-clause-xor : goal.returns-clause-xor
returns-clause-xor c = red_xor_bits
