use Rattle.cover_answer.proofs.AnswerLemmas.{covers_agree}
use Rattle.cover_answer.proofs.law.cover_has_one_answer.Goals as goal

pub returns : goal.returns
returns c = covers_agree c.one_ranking.ensures
