use Rattle.cov_dat.proofs.FrontLemmas.{reads_by_front}
use Rattle.cov_dat.proofs.front_law.front_is_enough.Goals as goal

pub returns : goal.returns
returns c = reads_by_front
