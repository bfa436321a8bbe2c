use Rattle.bit_values.proofs.SizeLaws.{truncate_undoes_extend}
use Rattle.bit_values.proofs.laws.truncate_undoes_extend.Goals as goal

pub returns : goal.returns
returns c = truncate_undoes_extend
