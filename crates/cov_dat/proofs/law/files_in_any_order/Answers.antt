use Rattle.cov_dat.proofs.LawLemmas.{files_in_any_order}
use Rattle.cov_dat.proofs.law.files_in_any_order.Goals as goal

pub returns : goal.returns
returns c = files_in_any_order
