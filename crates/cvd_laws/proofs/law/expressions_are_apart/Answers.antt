use Rattle.cvd_laws.proofs.Typeds.{apart_typed}
use Rattle.cvd_laws.proofs.law.expressions_are_apart.Goals as goal

pub returns : goal.returns
returns c = apart_typed
