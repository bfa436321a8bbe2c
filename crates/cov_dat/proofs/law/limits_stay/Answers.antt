use Rattle.cov_dat.proofs.LimitLemmas.{limits_stay}
use Rattle.cov_dat.proofs.law.limits_stay.Goals as goal

pub returns : goal.returns
returns c = limits_stay
