use Rattle.cvd_laws.proofs.Targets.{apart_target}
use Rattle.cvd_laws.proofs.law.targets_are_apart.Goals as goal

pub returns : goal.returns
returns c = apart_target
