use Rattle.cover_answer.proofs.AnswerLemmas.{done_unless_wrong}
use Rattle.cover_answer.proofs.law.cover_is_done_unless_wrong.Goals as goal

pub returns : goal.returns
returns c = done_unless_wrong
