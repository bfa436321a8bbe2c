use Rattle.bit_values.proofs.PartLaws.{replace_past_top, replace_below}
use Rattle.bit_values.proofs.laws.replace_outside.Goals as goal

pub returns-clause-past_top : goal.returns-clause-past_top
returns-clause-past_top c = replace_past_top

pub returns-clause-below : goal.returns-clause-below
returns-clause-below c = replace_below
