use Rattle.bit_values.proofs.PartLaws.{select_concat_high, select_concat_low}
use Rattle.bit_values.proofs.laws.select_concat.Goals as goal

pub returns-clause-high : goal.returns-clause-high
returns-clause-high c = select_concat_high

pub returns-clause-low : goal.returns-clause-low
returns-clause-low c = select_concat_low
