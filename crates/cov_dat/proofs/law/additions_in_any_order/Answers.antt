use Rattle.cov_dat.proofs.AdditionLemmas.{additions_in_any_order}
use Rattle.cov_dat.proofs.law.additions_in_any_order.Goals as goal

pub returns : goal.returns
returns c = additions_in_any_order
