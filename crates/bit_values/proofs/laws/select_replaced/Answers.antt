use Rattle.bit_values.proofs.PartLaws.{select_replaced, select_below_replaced, select_above_replaced}
use Rattle.bit_values.proofs.laws.select_replaced.Goals as goal

pub returns-clause-part : goal.returns-clause-part
returns-clause-part c = select_replaced

pub returns-clause-below : goal.returns-clause-below
returns-clause-below c = select_below_replaced

pub returns-clause-above : goal.returns-clause-above
returns-clause-above c = select_above_replaced
