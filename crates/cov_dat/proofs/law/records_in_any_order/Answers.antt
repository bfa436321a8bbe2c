use Rattle.cov_dat.proofs.LawLemmas.{in_any_order}
use Rattle.cov_dat.proofs.law.records_in_any_order.Goals as goal

pub returns : goal.returns
returns c = in_any_order
