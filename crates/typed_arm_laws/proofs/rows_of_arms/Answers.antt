use Rattle.typed_arm_laws.proofs.RowsOfArms.{arms_have_their_rows}
use Rattle.typed_arm_laws.proofs.rows_of_arms.Goals as goal

pub returns : goal.returns
returns c = arms_have_their_rows
