use Rattle.cov_program.specs.Words.{task_of}
use Rattle.cov_program.proofs.LawLemmas.{tasks_agree}
use Rattle.cov_program.proofs.law.answers_agree.Goals as goal

pub returns : goal.returns
returns c words held a b one two =
    tasks_agree c.check_has_one_answer.ensures c.cover_has_one_answer.ensures
    (c.sim_has_one_answer.ensures c.texts_are_told_one_way.ensures.design c.texts_are_told_one_way.ensures.refusal
    c.texts_are_told_one_way.ensures.never c.designs_run_once.ensures.run) (task_of words) held a b one two
