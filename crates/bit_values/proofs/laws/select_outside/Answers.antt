use Rattle.bit_values.proofs.PartLaws.{select_past_top, select_below}
use Rattle.bit_values.proofs.laws.select_outside.Goals as goal

pub returns-clause-past_top : goal.returns-clause-past_top
returns-clause-past_top c = select_past_top

pub returns-clause-below : goal.returns-clause-below
returns-clause-below c = select_below
