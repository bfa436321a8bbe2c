use Rattle.test_rank.proofs.OneRank.{one-ranking}
use Rattle.test_rank.proofs.law.one_ranking.Goals as goal

pub returns : goal.returns
returns c = one-ranking
