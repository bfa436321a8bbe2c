use Rattle.cov_dat.proofs.LimitLemmas.{limits_in_any_order}
use Rattle.cov_dat.proofs.law.limits_in_any_order.Goals as goal

pub returns : goal.returns
returns c = limits_in_any_order c.files_in_any_order.ensures
