use Rattle.typed_form.proofs.KeepsValue.{keeps_value}
use Rattle.flat_laws.proofs.typed_value.Goals as goal

pub returns : goal.returns
returns c = keeps_value
