use Rattle.cvd_laws.proofs.TypedSorts.{sorted_typed}
use Rattle.cvd_laws.proofs.law.numbers_are_told.Goals as goal

pub returns : goal.returns
returns c = sorted_typed
