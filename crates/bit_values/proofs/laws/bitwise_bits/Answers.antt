use Rattle.bit_values.proofs.ResultLaws.{and_bits, or_bits, xor_bits}
use Rattle.bit_values.proofs.laws.bitwise_bits.Goals as goal

pub returns-clause-and : goal.returns-clause-and
returns-clause-and c = and_bits

pub returns-clause-or : goal.returns-clause-or
returns-clause-or c = or_bits

pub returns-clause-xor : goal.returns-clause-xor
returns-clause-xor c = xor_bits
