use Rattle.cover_answer.proofs.AnswerLemmas.{any_order}
use Rattle.cover_answer.proofs.law.writes_in_any_order.Goals as goal

pub returns : goal.returns
returns c = any_order c.merges_in_any_order.ensures c.writing_merges.ensures
