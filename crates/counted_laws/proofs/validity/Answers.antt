use Rattle.counted_laws.proofs.StaysValid.{counted_is_valid}
use Rattle.counted_laws.proofs.validity.Goals as goal

pub returns : goal.returns
returns c = counted_is_valid
