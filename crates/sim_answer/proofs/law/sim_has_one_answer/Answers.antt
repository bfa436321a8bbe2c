use Rattle.sim_answer.proofs.AnswerLemmas.{one_sim}
use Rattle.sim_answer.proofs.law.sim_has_one_answer.Goals as goal

pub returns : goal.returns
returns c = one_sim
