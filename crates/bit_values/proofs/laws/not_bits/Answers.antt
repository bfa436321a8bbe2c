use Rattle.bit_values.proofs.SizeLaws.{not_bits}
use Rattle.bit_values.proofs.laws.not_bits.Goals as goal

pub returns : goal.returns
returns c = not_bits
