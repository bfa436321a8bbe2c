use Rattle.sim_answer.proofs.AnswerLemmas.{has_an_answer}
use Rattle.sim_answer.proofs.law.sim_has_an_answer.Goals as goal

pub returns : goal.returns
returns c = has_an_answer
