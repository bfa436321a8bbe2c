use Rattle.bit_values.proofs.SizeLaws.{extend_keeps_signed}
use Rattle.bit_values.proofs.laws.extend_keeps_signed.Goals as goal

pub returns : goal.returns
returns c = extend_keeps_signed
