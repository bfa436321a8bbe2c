use Rattle.cov_program.proofs.LawLemmas.{words_done}
use Rattle.cov_program.proofs.SimLemmas.{runs_done}
use Rattle.cov_program.proofs.law.done_unless_wrong.Goals as goal

pub returns : goal.returns
returns c =
    words_done c.check_is_done_unless_wrong.ensures c.cover_is_done_unless_wrong.ensures
    (runs_done c.texts_are_told_one_way.ensures.design c.texts_are_told_one_way.ensures.never)
