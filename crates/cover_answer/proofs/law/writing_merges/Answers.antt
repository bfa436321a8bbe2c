use Rattle.cover_answer.proofs.AnswerLemmas.{merges}
use Rattle.cover_answer.proofs.law.writing_merges.Goals as goal

pub returns : goal.returns
returns c = merges
