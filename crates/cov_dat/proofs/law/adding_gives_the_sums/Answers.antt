use Rattle.cov_dat.proofs.LawLemmas.{adds_one_by_one}
use Rattle.cov_dat.proofs.law.adding_gives_the_sums.Goals as goal

pub returns : goal.returns
returns c = adds_one_by_one
